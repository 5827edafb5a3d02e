-- The elements of a message of which nobody has looked whether they are whole.
use Rattle.std.specs.Prelude.{◌≡◌, Bool, true, refl}
use Rattle.std.specs.Coded.{Coded, code_by, coded×, coded_bool}
use Rattle.message_tree.specs.Data as tree
use Rattle.message_tree.specs.Code.{items_code}

pub record Rest : Type 0 where
  -- what is read of them: null where a value is missing
  pub items : tree.Items
  -- each is there, and no octet stands behind the last
  pub is_whole : Bool

abbrev pub rest_code : Coded Rest
rest_code = code_by (tree.Items × Bool) (coded× items_code coded_bool) (λ r. (r.items, r.is_whole)) (λ p. record { items = p.0; is_whole = p.1 }) (λ _. refl)

-- the value stands before the others
pub record StandsBefore (d : tree.Data) (others all : Rest) : Type 0 where
  pub items : all.items ≡ tree.item d others.items
  pub is_whole : others.is_whole ≡ all.is_whole

-- where they are whole, no value of this kind stands before others
abbrev pub HasNone : {X : Type 0} → (X → tree.Data) → Rest → Type 0
HasNone kind all = (x : _) (others : tree.Items) → all.is_whole ≡ true → all.items ≡ tree.item (kind x) others → ⊥
