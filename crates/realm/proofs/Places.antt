-- Where an item goes among what is given.
use Rattle.std.proofs.Common.{◌≡◌, ℕ, List, ◌++◌, take, drop}
use Rattle.wamp_messages.specs.declared.item.Item.{Item}
use Rattle.realm.specs.body.Outputs.{put_before}

-- the first i are for connections below c
pub record PassedOver (given : List (ℕ × Item)) (i c : ℕ) : Type 0 where
  pub place : (item : Item) → put_before c item given ≡ take i given ++ put_before c item (drop i given)
