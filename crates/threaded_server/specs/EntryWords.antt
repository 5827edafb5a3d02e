-- The words that the entries of a history draw, of which their ids are made.
use Rattle.std.specs.Prelude.{◌≡◌, ℕ, true, cond, List, [], ◌∷◌, ◌++◌, length}
use Rattle.std.specs.Option.{option_to_list}
use Rattle.broker_config.specs.declared.config.Ids.{Ids}
use Rattle.broker_threads.specs.Words.{are_counted, counted}
use Rattle.realm.specs.History.{History, begun, ◌▷◌}
use Rattle.realm.specs.Words.{draws_word, word_of}

-- those of its entries that draw one, the oldest first
abbrev pub words_of : History → List ℕ
words_of (begun grants) = []
words_of (h ▷ e) = words_of h ++ cond (draws_word e) (option_to_list (word_of e)) []

-- the first of these lists is the second, but for what was passed over
pub data IsWithin : List ℕ → List ℕ → Type 0 where
  none : IsWithin [] []
  taken : {xs ys : List ℕ} (y : ℕ) → IsWithin xs ys → IsWithin (xs ++ y ∷ []) (ys ++ y ∷ [])
  passed : {xs ys : List ℕ} (y : ℕ) → IsWithin xs ys → IsWithin xs (ys ++ y ∷ [])

-- each entry that draws a word has one of its own, of those that the realm's source gave; where ids are counted, these are 0, 1, 2 and so on
pub record HasWords (ids : Ids) (h : History) : Type 0 where
  pub given : List ℕ
  pub within : IsWithin (words_of h) given
  pub in_order : are_counted ids ≡ true → given ≡ counted (length given)
