-- What a search finds of receivers.
use Rattle.std.specs.Prelude.{ℕ, Bool, false, ◌==◌, ◌&&◌, ◌||◌, ◌≡◌, List, map, None, Some}
use Rattle.std.specs.declared.option.Option.{Option}
use Rattle.subscription_index.specs.declared.receiver.Receiver.{Receiver}
use Rattle.subscription_index.specs.declared.receivers.Found.{Found}
use Rattle.subscription_index.specs.declared.receivers.Found.TheVariants.{One, Several}
use Rattle.subscription_index.specs.Index.{IsStrictlyAscending, has_key}
use Rattle.subscription_index.specs.body.Found.{has}
use Rattle.subscription_index.specs.body.Holders.{Holders, is_holder}

abbrev pub keys_of : List Receiver → List (ℕ × ℕ)
keys_of rs = map (λ r. (r.conn, r.number)) rs

-- the number is there, and is n
abbrev pub is_number : Option ℕ → ℕ → Bool
is_number None n = false
is_number (Some m) n = m == n

-- n is the number, or one of the others
abbrev pub is_either : Option ℕ → List ℕ → ℕ → Bool
is_either number others n = is_number number n || has others n

-- a connection and a number, where the number tells whether events name the topic
abbrev pub receiver_by : (ℕ → Bool) → ℕ × ℕ → Receiver
receiver_by names_topic k = record { conn = k.0; number = k.1; names_topic = names_topic k.1 }

-- what a search found, as a list
abbrev pub list_of : Found → List Receiver
list_of (One conns number names_topic) = map (λ c. receiver_by (λ n. names_topic) (c, number)) conns.now
list_of (Several receivers) = receivers.items

-- the holders of the numbers that are asked for, in order, each of which says whether its events name the topic
pub record AreFound (holders : Holders) (is_asked names_topic : ℕ → Bool) (found : List Receiver) : Type 0 where
  pub ascending : IsStrictlyAscending (keys_of found)
  pub members : (c n : ℕ) → has_key (keys_of found) (c, n) ≡ is_asked n && is_holder holders c n
  pub named : found ≡ map (receiver_by names_topic) (keys_of found)
