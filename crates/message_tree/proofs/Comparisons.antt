-- Choices by an ordering.
use Rattle.std.proofs.Common.{◌≡◌, Ordering, Less, Equal, Greater, is_eq, cond, refl}
use Rattle.std.specs.Ordering.{match_ordering}

-- what holds of each choice holds of the one that is taken
pub whichever : {A : Type 0} (P : A → Type 0) (o : Ordering) (less same more : A) → P less → P same → P more → P (match_ordering o less same more)
whichever P Less less same more holds _ _ = holds
whichever P Equal less same more _ holds _ = holds
whichever P Greater less same more _ _ holds = holds

-- a function of the choice is a choice of its values
pub through : {A B : Type 0} (f : A → B) (o : Ordering) (less same more : A) → match_ordering o (f less) (f same) (f more) ≡ f (match_ordering o less same more)
through f Less less same more = refl
through f Equal less same more = refl
through f Greater less same more = refl

-- a test for equality
pub if-equal : {A : Type 0} (o : Ordering) (same other : A) → match_ordering o other same other ≡ cond (is_eq o) same other
if-equal Less same other = refl
if-equal Equal same other = refl
if-equal Greater same other = refl
