use Rattle.std.proofs.Common.{◌≡◌, ℕ, List, None, Some, false, sym, ap, ◌∙◌, subst}
use Rattle.subscription_index.specs.Index.{Row, NamesInAll, keys, has_key, number_held, number_of}
use Rattle.subscription_index.proofs.IndexLemmas.{joined_by, opened_by, given}
use Rattle.subscription_index.proofs.NumbersNamePatterns.{names_held, names_next, absent_joined, absent_next}
use Rattle.subscription_index.proofs.RowUpdates.{number_of-insert, number_of-joined}
use Rattle.subscription_index.proofs.index.Index.hold.Goals as goal

pub join-requires-clause-free : goal.join-requires-clause-free
join-requires-clause-free c =
    let rows = c.self.inside.rows.entries in
    let n = c.in-Some-found.number in
    absent_joined rows c.args.conn c.args.pattern n (names_held rows c.args.pattern n c.self.invariant.0.named (sym c.number_of-found.ensures ∙ c.in-Some-found.is)) (sym c.number_held.ensures ∙ c.in_default.is)

pub invariant_of-self-in-Some-found : goal.invariant_of-self-in-Some-found
invariant_of-self-in-Some-found c =
    let rows = c.self.inside.rows.entries in
    let n = c.in-Some-found.number in
    let free : number_held rows c.args.conn c.args.pattern ≡ None = sym c.number_held.ensures ∙ c.in_default.is in
    let held : number_of rows c.args.pattern ≡ Some n = sym c.number_of-found.ensures ∙ c.in-Some-found.is in
    let put = c.in_ok-join-in-Some-found.ensures in (
      joined_by (record { rows = rows; opened = c.self.inside.opened }) c.args.conn c.args.pattern n c.join.new.rows.entries c.self.invariant.0 free held put.rows,
      λ q. c.self.invariant.1 q ∙ sym (ap (λ (rs : List Row). number_of rs q) put.rows ∙ number_of-joined rows c.args.pattern n c.args.conn q c.self.invariant.0.named held),
      put.shared,
    )

pub returns-in_ok-join-in-Some-found-clause-index : goal.returns-in_ok-join-in-Some-found-clause-index
returns-in_ok-join-in-Some-found-clause-index c =
    let rows = c.self.inside.rows.entries in
    let n = c.in-Some-found.number in
    joined_by (record { rows = rows; opened = c.self.inside.opened }) c.args.conn c.args.pattern n c.join.new.rows.entries c.self.invariant.0 (sym c.number_held.ensures ∙ c.in_default.is) (sym c.number_of-found.ensures ∙ c.in-Some-found.is) c.in_ok-join-in-Some-found.ensures.rows

pub open-requires-clause-free : goal.open-requires-clause-free
open-requires-clause-free c =
    let rows = c.self.inside.rows.entries in
    let next = given (record { rows = rows; opened = c.self.inside.opened }) c.in-Some-next_number.number (sym c.next_number.ensures ∙ c.in-Some-next_number.is) in
    subst (λ (n : ℕ). has_key (keys rows) (c.args.conn, n) ≡ false) next.1 (absent_next rows c.args.conn c.self.inside.opened c.self.invariant.0.numbered)

pub invariant_of-self-in-None : goal.invariant_of-self-in-None
invariant_of-self-in-None c =
    let rows = c.self.inside.rows.entries in
    let n = c.in-Some-next_number.number in
    let none : number_of rows c.args.pattern ≡ None = sym c.number_of-found.ensures ∙ c.in-None.is in
    let numbered = sym c.next_number.ensures ∙ c.in-Some-next_number.is in
    let next = given (record { rows = rows; opened = c.self.inside.opened }) n numbered in
    let put = c.in_ok-open-in-None.ensures in
    let all : NamesInAll n c.args.pattern rows = subst (λ (m : ℕ). NamesInAll m c.args.pattern rows) next.1 (names_next rows c.args.pattern c.self.inside.opened c.self.invariant.0.numbered none) in (
      opened_by (record { rows = rows; opened = c.self.inside.opened }) c.args.conn c.args.pattern n c.open.new.rows.entries c.self.invariant.0 none numbered put.rows,
      λ q. put.names q ∙ sym (ap (λ (rs : List Row). number_of rs q) put.rows ∙ number_of-insert n c.args.pattern c.args.conn rows q all),
      put.shared,
    )

pub returns-in_ok-open-in-None-clause-index : goal.returns-in_ok-open-in-None-clause-index
returns-in_ok-open-in-None-clause-index c =
    let rows = c.self.inside.rows.entries in
    opened_by (record { rows = rows; opened = c.self.inside.opened }) c.args.conn c.args.pattern c.in-Some-next_number.number c.open.new.rows.entries c.self.invariant.0 (sym c.number_of-found.ensures ∙ c.in-None.is) (sym c.next_number.ensures ∙ c.in-Some-next_number.is) c.in_ok-open-in-None.ensures.rows
