use Rattle.std.proofs.Common.{◌≡◌, ◌+◌, ◌&&◌, ℕ, List, ◌++◌, length, true, false, ltb, map, drop, get_or, refl, sym, ap, ◌∙◌, append_assoc}
use Rattle.std.proofs.lemmas.Bool.{lt-ltb, and_from, and_left, and_right}
use Rattle.std.proofs.lemmas.List.{append-nil}
use Rattle.msgpack_codec.specs.Short.{dict_head}
use Rattle.msgpack_canonical.specs.body.Entries.{all_kept, cut, cuts, entry_in, is_some_octets}
use Rattle.msgpack_canonical.proofs.Sizes.{cuts-step, all_kept-step, none-left, no-octets, some-octets}
use Rattle.msgpack_canonical.proofs.entries.put_entries.Goals as goal

pub loop-place-init : goal.loop-place-init
loop-place-init c = record {
  written = ap (λ (o : List ℕ). o ++ cuts c.args.written.now c.args.places.now) c.in_ok-put_dict_head.ensures.ok ∙ append_assoc c.args.out.now.since (dict_head (length c.args.places.now)) (cuts c.args.written.now c.args.places.now);
  fit = refl;
  before = c.put_dict_head.ensures.before;
}

pub returns-then-is_empty-clause-fits : goal.returns-then-is_empty-clause-fits
returns-then-is_empty-clause-fits c =
    let l = c.loop-place in
    let written = c.args.written.now in
    let places = c.args.places.now in
    let none : is_some_octets (entry_in written (get_or places l.place-index _)).1 ≡ false = ap is_some_octets (sym c.entry_at.ensures.value) ∙ no-octets c.entry_at.result.1.now (sym c.if-is_empty.ensures) in
    sym (and_right _ _ (l.invariant.fit ∙ (all_kept-step written places l.place-index _ c.loop-place-test.true ∙ and_left _ _ none)))

pub returns-then-is_empty-clause-before : goal.returns-then-is_empty-clause-before
returns-then-is_empty-clause-before c = c.loop-place.invariant.before

pub returns-in_err-put_all-clause-before : goal.returns-in_err-put_all-clause-before
returns-in_err-put_all-clause-before c = c.put_all.ensures.before ∙ c.loop-place.invariant.before

pub loop-place-preserved : goal.loop-place-preserved
loop-place-preserved c =
    let l = c.loop-place in
    let written = c.args.written.now in
    let places = c.args.places.now in
    let some : is_some_octets (entry_in written (get_or places l.place-index _)).1 ≡ true = ap is_some_octets (sym c.entry_at.ensures.value) ∙ some-octets c.entry_at.result.1.now (sym c.if-is_empty.ensures) in
    let left = cuts written (drop (l.place-index + 1) places) in
    record {
      written = ap (λ (o : List ℕ). o ++ left) (c.in_ok-put_all.ensures.ok ∙ ap (λ (o : List ℕ). l.out.since ++ o) c.octets_at.ensures)
          ∙ (append_assoc l.out.since (cut written (get_or places l.place-index _)) left ∙ (ap (λ o. l.out.since ++ o) (sym (cuts-step written places l.place-index _ c.loop-place-test.true)) ∙ l.invariant.written));
      fit = l.invariant.fit ∙ (all_kept-step written places l.place-index _ c.loop-place-test.true ∙ ap (λ b. b && all_kept (map (entry_in written) (drop (l.place-index + 1) places))) some);
      before = c.put_all.ensures.before ∙ l.invariant.before;
    }

pub returns-clause-fits : goal.returns-clause-fits
returns-clause-fits c =
    let l = c.loop-place in
    let few : ltb (length c.args.places.now) 4294967296 ≡ true = lt-ltb _ _ c.if-places-ge4294967296.false in
    let none = none-left c.args.written.now c.args.places.now l.place-index c.loop-place-test.false in
    sym (and_from _ _ few (l.invariant.fit ∙ ap (λ ps. all_kept (map (entry_in c.args.written.now) ps)) none))

pub returns-clause-written : goal.returns-clause-written
returns-clause-written c =
    let l = c.loop-place in
    let none = none-left c.args.written.now c.args.places.now l.place-index c.loop-place-test.false in
    λ _. sym (append-nil l.out.since) ∙ (ap (λ ps. l.out.since ++ cuts c.args.written.now ps) (sym none) ∙ l.invariant.written)

pub returns-clause-before : goal.returns-clause-before
returns-clause-before c = c.loop-place.invariant.before
