-- Values one behind the other: those that are read are those that fronts spell.
use Rattle.std.proofs.Common.{◌≡◌, ◌↔◌, ◌==◌, ℕ, zero, suc, List, [], ◌∷◌, ◌++◌, length, true, Ok, refl, sym, ap, ◌∙◌, subst, append_assoc}
use Rattle.std.proofs.lemmas.List.{append-nil}
use Rattle.message_tree.specs.Data as tree
use Rattle.message_tree.specs.View.{items_of}
use Rattle.msgpack_codec.specs.Grammar.{AreSpelled, Spells}
use Rattle.msgpack_codec.specs.body.Decoder.{value_at}
use Rattle.msgpack_codec.proofs.ReadIsSpelled.{value_found}
use Rattle.msgpack_codec.proofs.SpelledIsRead.{value_again}
use Rattle.msgpack_cursor.specs.Standing.{value_in, rest_in, items_in, is_whole, AreThere}
use Rattle.msgpack_cursor.proofs.Readings.{value-read, rest-read, is-empty}
use Rattle.msgpack_cursor.proofs.Walking.{whole-first, one-behind}
use Rattle.msgpack_laws.specs.Spelled.{AreWhole, AreStanding}

there-stand : (room n : ℕ) (octets : List ℕ) → AreThere room n octets → AreStanding room n octets (items_in room n octets)
unfolding AreThere items_in
there-stand room zero octets there = ([], octets, refl, ([], refl, refl, refl))
there-stand room (suc n) octets there =
    let f = value_found room octets (value_in room octets) (rest_in room octets) there.0 in
    let more = there-stand room n (rest_in room octets) there.1 in
    let whole = more.3 in (
      f.0 ++ more.0,
      more.1,
      f.1 ∙ ap (λ (r : List ℕ). f.0 ++ r) more.2 ∙ sym (append_assoc f.0 more.0 more.1),
      (value_in room octets ∷ whole.0, ap suc whole.1, ap (tree.item (value_in room octets)) whole.2, (f.0, more.0, refl, f.2, whole.3)),
    )

fronts-there : (room : ℕ) (octets front rest : List ℕ) (values : List tree.Data) → octets ≡ front ++ rest → AreSpelled (Spells room) front values
    → AreThere room (length values) octets × (items_in room (length values) octets ≡ items_of values)
unfolding AreThere items_in
fronts-there room octets front rest [] parts h = (tt, refl)
fronts-there room octets front rest (d ∷ values) parts h =
    let behind = h.1 ++ rest in
    let split : octets ≡ h.0 ++ behind = parts ∙ ap (λ (o : List ℕ). o ++ rest) h.2 ∙ append_assoc h.0 h.1 rest in
    let read : value_at room octets ≡ Ok (d, behind) = ap (value_at room) split ∙ value_again room h.0 d behind h.3 in
    let v = value-read room octets d behind read in
    let r = rest-read room octets d behind read in
    let more = fronts-there room (rest_in room octets) h.1 rest values r h.4 in (
      (read ∙ (ap (λ (x : tree.Data). Ok (x, behind)) (sym v) ∙ ap (λ (o : List ℕ). Ok (value_in room octets, o)) (sym r)), more.0),
      ap (λ x. tree.item x (items_in room (length values) (rest_in room octets))) v ∙ ap (tree.item d) more.1,
    )

stand-there : (room n : ℕ) (octets : List ℕ) (ds : tree.Items) → AreStanding room n octets ds → AreThere room n octets × (items_in room n octets ≡ ds)
stand-there room n octets ds s =
    let whole = s.3 in
    let there = fronts-there room octets s.0 s.1 whole.0 s.2 whole.3 in (
      subst (λ m. AreThere room m octets) whole.1 there.0,
      ap (λ m. items_in room m octets) (sym whole.1) ∙ (there.1 ∙ whole.2),
    )

pub values-stand : (room n : ℕ) (octets : List ℕ) (ds : tree.Items)
    → (AreThere room n octets × (items_in room n octets ≡ ds)) ↔ AreStanding room n octets ds
values-stand room n octets ds = (λ is. subst (λ x. AreStanding room n octets x) is.1 (there-stand room n octets is.0), stand-there room n octets ds)

-- ---- and nothing behind them

whole-spelled : (room n : ℕ) (octets : List ℕ) → is_whole room n octets ≡ true → AreWhole room n octets (items_in room n octets)
unfolding is_whole items_in
whole-spelled room zero octets whole = ([], refl, refl, is-empty octets (sym whole))
whole-spelled room (suc n) octets whole =
    let v = value_in room octets in
    let behind = rest_in room octets in
    let read = whole-first room (suc n) octets (λ e. cc) whole in
    let f = value_found room octets v behind read in
    let more = whole-spelled room n behind (one-behind room n octets v behind read ∙ whole) in
    (v ∷ more.0, ap suc more.1, ap (tree.item v) more.2, (f.0, behind, f.1, f.2, more.3))

spelled-whole : (room : ℕ) (octets : List ℕ) (values : List tree.Data) → AreSpelled (Spells room) octets values
    → is_whole room (length values) octets ≡ true
unfolding is_whole
spelled-whole room octets [] h = ap (λ o. length o == 0) h
spelled-whole room octets (d ∷ values) h =
    let read : value_at room octets ≡ Ok (d, h.1) = ap (value_at room) h.2 ∙ value_again room h.0 d h.1 h.3 in
    sym (one-behind room (length values) octets d h.1 read) ∙ spelled-whole room h.1 values h.4

pub whole-stands : (room n : ℕ) (octets : List ℕ) (ds : tree.Items)
    → ((is_whole room n octets ≡ true) × (items_in room n octets ≡ ds)) ↔ AreWhole room n octets ds
whole-stands room n octets ds = (
  λ is. subst (λ x. AreWhole room n octets x) is.1 (whole-spelled room n octets is.0),
  λ whole.
      let there = fronts-there room octets octets [] whole.0 (sym (append-nil octets)) whole.3 in (
        subst (λ m. is_whole room m octets ≡ true) whole.1 (spelled-whole room octets whole.0 whole.3),
        ap (λ m. items_in room m octets) (sym whole.1) ∙ (there.1 ∙ whole.2),
      ),
)
