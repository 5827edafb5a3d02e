-- Choices by a Boolean, and what of an option a choice takes away.
use Rattle.std.proofs.Common.{◌≡◌, Bool, true, false, true≢false, cond, refl, sym, ◌∙◌, None, Some, is_some}
use Rattle.std.specs.declared.option.Option.{Option}

pub clash : (b : Bool) {P : Type 0} → b ≡ true → b ≡ false → P
clash b is is_not = absurd (true≢false (sym is ∙ is_not))

pub cond-same : {A : Type 0} (b : Bool) (x : A) → cond b x x ≡ x
cond-same true x = refl
cond-same false x = refl

pub not-some : {A : Type 0} (o : Option A) → is_some o ≡ false → o ≡ None
not-some None none = refl
not-some (Some x) none = absurd (true≢false none)

-- what is there unless b holds was there before
pub some-before : {A : Type 0} (b : Bool) (o : Option A) → is_some (cond b None o) ≡ true → is_some o ≡ true
some-before true o some = absurd (cc)
some-before false o some = some

pub none-since : {A : Type 0} (b : Bool) (o : Option A) → is_some o ≡ false → is_some (cond b None o) ≡ false
none-since true o none = refl
none-since false o none = none

pub taken-away : {A : Type 0} (b : Bool) (o : Option A) → b ≡ true → is_some (cond b None o) ≡ false
taken-away true o is = refl
taken-away false o is = absurd (cc)
