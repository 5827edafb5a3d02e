-- A number names one pattern for good: the pattern that was opened with it.
use Rattle.std.proofs.Common.{◌≡◌, ℕ, ◌+◌, ◌≤◌, Bool, true, false, cond, eqb, List, [], ◌∷◌, ◌++◌, length, refl, sym, ap, ◌∙◌, append_assoc, length-append, None, Some, arith}
use Rattle.std.specs.declared.option.Option.{Option}
use Rattle.std.proofs.lemmas.Bool.{eq-eqb}
use Rattle.std.proofs.lemmas.Bool.Decides.{nat_tests}
use Rattle.std.specs.List.{list_any}
use Rattle.wamp_ids.proofs.Lemmas.{same_pattern-true}
use Rattle.wamp_ids.specs.Pattern.{PatternText, same_pattern}
use Rattle.realm.specs.declared.entry.Entry.{Entry}
use Rattle.realm.specs.declared.entry.Entry.TheVariants.{Said}
use Rattle.wamp_messages.specs.declared.said.Said.TheVariants.{Subscribe}
use Rattle.realm.specs.History.{History, ◌▷◌, Begins, same, longer}
use Rattle.realm.specs.Sessions.{joined}
use Rattle.realm.specs.Subscriptions.{holds, opened, number, number_among, if_new, subscribed}
use Rattle.realm.proofs.Numbers.{number_among-le}

-- the pattern that was opened with this number
abbrev opened_as : List PatternText → ℕ → Option PatternText
opened_as [] n = None
opened_as (q ∷ older) n = cond (eqb (length older + 1) n) (Some q) (opened_as older n)

opened_as-number : (os : List PatternText) (p : PatternText) → 1 ≤ number_among os p → opened_as os (number_among os p) ≡ Some p
opened_as-number [] p some = absurd (omega arith)
opened_as-number (q ∷ older) p some = at (same_pattern q p) refl some (opened_as-number older p)
  where
    at : (b : Bool) → same_pattern q p ≡ b → 1 ≤ cond b (length older + 1) (number_among older p) → (1 ≤ number_among older p → opened_as older (number_among older p) ≡ Some p)
        → cond (eqb (length older + 1) (cond b (length older + 1) (number_among older p))) (Some q) (opened_as older (cond b (length older + 1) (number_among older p))) ≡ Some p
    at true is some older_is =
        let here : eqb (length older + 1) (length older + 1) ≡ true = eq-eqb (length older + 1) (length older + 1) refl in
        rw here (ap Some (same_pattern-true q p is))
    at false is some older_is =
        let small : number_among older p ≤ length older = number_among-le older p in
        let other : eqb (length older + 1) (number_among older p) ≡ false = grind (arith, nat_tests) in
        rw other (older_is some)

opened_as-more : (more os : List PatternText) (n : ℕ) → n ≤ length os → opened_as (more ++ os) n ≡ opened_as os n
opened_as-more [] os n small = refl
opened_as-more (q ∷ more) os n small =
    let long : length (more ++ os) ≡ length more + length os = length-append more os in
    let other : eqb (length (more ++ os) + 1) n ≡ false = grind (arith, nat_tests) in
    rw other (opened_as-more more os n small)

record Grown (from to : List PatternText) : Type 0 where
  more : List PatternText
  is : to ≡ more ++ from

opened-next : (k : History) (e : Entry) → Grown (opened k) (opened (k ▷ e))
unfolding opened
opened-next k (Said d word (Subscribe request options topic)) =
    record { more = if_new (λ p. list_any (λ c. holds k c p) (joined k)) (subscribed k d options topic); is = refl }
opened-next k e = record { more = []; is = refl }

opened-Begins : (h k : History) → Begins h k → Grown (opened h) (opened k)
opened-Begins h k same = record { more = []; is = refl }
opened-Begins h (k ▷ e) (longer begins) =
    let before = opened-Begins h k begins in
    let next = opened-next k e in
    record { more = next.more ++ before.more; is = next.is ∙ (ap (λ os. next.more ++ os) before.is ∙ sym (append_assoc next.more before.more (opened h))) }

pub one-pattern : (h k : History) (p q : PatternText) → Begins h k → 1 ≤ number h p → number h p ≡ number k q → p ≡ q
one-pattern h k p q begins some alike =
    let grown = opened-Begins h k begins in
    let first : opened_as (opened h) (number h p) ≡ Some p = opened_as-number (opened h) p some in
    let kept : opened_as (opened k) (number h p) ≡ opened_as (opened h) (number h p) =
    ap (λ os. opened_as os (number h p)) grown.is ∙ opened_as-more grown.more (opened h) (number h p) (number_among-le (opened h) p) in
    let later_some : 1 ≤ number k q = omega arith in
    let second : opened_as (opened k) (number k q) ≡ Some q = opened_as-number (opened k) q later_some in
    let both : Some p ≡ Some q = sym first ∙ (sym kept ∙ (ap (opened_as (opened k)) alike ∙ second)) in
    cc
