-- What is written of a value, and what is seen in it.
use Rattle.std.proofs.Common.{Option, ◌≡◌, ◌≤◌, ℕ, List, [], ◌∷◌, ◌++◌, Bool, true, false, ◌&&◌, Ok, None, Some, refl, sym, ap, ◌∙◌, subst, append_assoc, arith}
use Rattle.std.proofs.lemmas.Bool.{and_parts}
use Rattle.std.proofs.lemmas.List.{append-nil}
use Rattle.std.proofs.Math.Bool.{and-true}
use Rattle.message_tree.specs.Data as tree
use Rattle.msgpack_codec.specs.Grammar.{Spells}
use Rattle.msgpack_codec.specs.Short.{short, has_short, list_head, dict_head}
use Rattle.msgpack_codec.specs.Written.{IsShortest}
use Rattle.msgpack_codec.specs.body.Decoder.{value_at}
use Rattle.msgpack_codec.proofs.MoreRoom.{more_room}
use Rattle.msgpack_codec.proofs.ShortIsSpelled.{short_spells}
use Rattle.msgpack_codec.proofs.Small.{spelled_is_sound}
use Rattle.msgpack_codec.proofs.SpelledIsRead.{one_spelling, value_again}
use Rattle.msgpack_canonical.specs.Canonical.{IsCanonicalized}
use Rattle.msgpack_cursor.specs.Standing.{value_in, rest_in}
use Rattle.msgpack_cursor.proofs.Readings.{value-read, rest-read}
use Rattle.json_codec.specs.Encoder.{json_text}
use Rattle.msgpack_to_json.specs.Standing.{Stands}
use Rattle.rawsocket.specs.declared.handshake.Serializer.{Serializer}
use Rattle.rawsocket.specs.declared.handshake.Serializer.TheVariants.{Json, MsgPack}
use Rattle.arguments.specs.Arguments.{is_all_carried, last_items}
use Rattle.arguments.specs.Endings.{IsEnding, further, items_have_spelling, separator, serialized}
use Rattle.arguments.specs.body.KeptArguments.{AreWritten, HasFirst, HasValues, IsWritable, behind_args, first_in, second_in, written_in}
use Rattle.arguments.specs.body.Parts.{IsPartPut, IsPut, IsPutIfAny, IsSpelledFor, IsSpelledPut, IsWrittenFor, further_if_any, further_one, has_spelling_if_any, has_spelling_one}

-- ---- one value

pub writable : (d : tree.Data) → tree.IsSound d → tree.is_carried d ≡ true → has_short d ≡ true → tree.depth d ≤ 99 → IsWritable d
writable d sound carried fits shallow = record { carried = carried; has_short = fits; spelled = short_spells d 99 sound carried fits shallow }

spelled_short : (d : tree.Data) → IsWritable d → Spells 100 (short d) d
spelled_short d w = more_room 99 (short d) d w.spelled

-- octets that are what `encode` writes
pub shortest_writable : (room : ℕ) (octets : List ℕ) (d : tree.Data) → tree.AreOctets octets → Spells room octets d → IsShortest octets d → tree.depth d ≤ 99 → IsWritable d
shortest_writable room octets d low s least shallow = writable d (spelled_is_sound room octets d low s).0 least.is_carried least.has_short shallow

put_by : (b : Bool) (v meant : tree.Data) (room : ℕ) (octets rest old new : List ℕ) → v ≡ meant → tree.IsSound v → has_short v ≡ true → tree.depth v ≤ 99 → IsCanonicalized room octets rest b old new
    → (c : IsCanonicalized room octets rest b old new) → c.meant ≡ meant → IsPut v b old new
put_by true v meant room octets rest old new is sound fits shallow h c same =
    let all : c.meant ≡ v = same ∙ sym is in (
      writable v sound (subst (λ d. tree.is_carried d ≡ true) all (c.carried refl)) fits shallow,
      c.written refl ∙ ap (λ d. old ++ short d) all,
    )
put_by false v meant room octets rest old new is sound fits shallow h c same =
    let all : v ≡ c.meant = is ∙ sym same in
    uncarried (tree.is_carried v) refl (λ carried. c.refused refl (subst (λ d. tree.is_carried d ≡ true) all carried) (subst (λ d. has_short d ≡ true) all fits))
  where
    uncarried : (b : Bool) → tree.is_carried v ≡ b → (tree.is_carried v ≡ true → ⊥) → tree.is_carried v ≡ false
    uncarried true e nay = absurd (nay e)
    uncarried false e nay = e

-- what was made canonical was put, or can't be carried
pub canonical_put : (room : ℕ) (octets rest old new : List ℕ) (b : Bool) (v : tree.Data) → tree.AreOctets octets → Spells room octets v → tree.depth v ≤ 99
    → IsCanonicalized room octets rest b old new → IsPut v b old new
canonical_put room octets rest old new b v low s shallow c =
    let same = one_spelling room octets c.front [] rest v c.meant s c.spelled (append-nil octets ∙ c.parts) in
    let sound = spelled_is_sound room octets v low s in
    put_by b v c.meant room octets rest old new same.0 sound.0 sound.1 shallow c c refl

-- ---- nothing in a list or dictionary

pub empty_list : IsWritable (tree.list tree.no_items)
empty_list = writable (tree.list tree.no_items) tt refl refl (omega arith)

pub empty_dict : IsWritable (tree.dict tree.no_entries)
empty_dict = writable (tree.dict tree.no_entries) (tt, tt) refl refl (omega arith)

pub short_list : short (tree.list tree.no_items) ≡ 144 ∷ []
unfolding list_head
short_list = refl

pub short_dict : short (tree.dict tree.no_entries) ≡ 128 ∷ []
unfolding dict_head
short_dict = refl

-- ---- one value or two

first_read : (d : tree.Data) (rest : List ℕ) → IsWritable d → value_at 100 (short d ++ rest) ≡ Ok (d, rest)
first_read d rest w = value_again 100 (short d) d rest (spelled_short d w)

pub one_written : (d : tree.Data) (octets : List ℕ) → IsWritable d → octets ≡ short d → IsWrittenFor d None octets
one_written d octets w is =
    let read : value_at 100 octets ≡ Ok (d, []) = ap (value_at 100) (is ∙ sym (append-nil (short d))) ∙ first_read d [] w in
    let first : first_in octets ≡ d = value-read 100 octets d [] read in
    record {
      written = record {
        args = subst IsWritable (sym first) w;
        kwargs = λ e. absurd cc;
        octets_are = is ∙ (sym (append-nil (short d)) ∙ ap (λ x. short x ++ []) (sym first));
      };
      same = ap (λ x. record { args = Some x; kwargs = None }) first;
    }

pub two_written : (a k : tree.Data) (octets : List ℕ) → IsWritable a → IsWritable k → octets ≡ short a ++ short k → IsWrittenFor a (Some k) octets
two_written a k octets w v is =
    let read : value_at 100 octets ≡ Ok (a, short k) = ap (value_at 100) is ∙ first_read a (short k) w in
    let first : first_in octets ≡ a = value-read 100 octets a (short k) read in
    let rest : rest_in 100 octets ≡ short k = rest-read 100 octets a (short k) read in
    let behind : value_at 100 (short k) ≡ Ok (k, []) = ap (value_at 100) (sym (append-nil (short k))) ∙ first_read k [] v in
    let second : second_in octets ≡ k = ap (value_in 100) rest ∙ value-read 100 (short k) k [] behind in
    record {
      written = record {
        args = subst IsWritable (sym first) w;
        kwargs = λ e. subst IsWritable (sym second) v;
        octets_are = is ∙ (ap (λ x. short x ++ short k) (sym first) ∙ ap (λ x. short (first_in octets) ++ short x) (sym second));
      };
      same = ap (λ x. record { args = Some x; kwargs = Some (second_in octets) }) first ∙ ap (λ x. record { args = Some a; kwargs = Some x }) second;
    }

-- what was written of trees, one behind the other
pub written_for : (a : tree.Data) (k : Option tree.Data) (none first both before octets : List ℕ) → none ≡ [] → IsPut a true none first → IsPutIfAny k first both → before ≡ [] → octets ≡ before ++ both → IsWrittenFor a k octets
written_for a None none first both before octets start put behind clear is =
    one_written a octets put.0 (is ∙ (ap (λ o. o ++ both) clear ∙ (behind ∙ (put.1 ∙ ap (λ o. o ++ short a) start))))
written_for a (Some k) none first both before octets start put behind clear is =
    two_written a k octets put.0 behind.0 (is ∙ (ap (λ o. o ++ both) clear ∙ (behind.1 ∙ ap (λ o. o ++ short k) (put.1 ∙ ap (λ o. o ++ short a) start))))

-- ---- what was read

-- one element was written alone
pub part_written : (read : Option tree.Data) (b : Bool) (clear none before octets both : List ℕ) → b ≡ true → clear ≡ [] → none ≡ [] → before ≡ clear → IsPartPut read b none both → octets ≡ before ++ both
    → (part : tree.Data) × (read ≡ Some part) × IsWrittenFor part None octets
part_written read b clear none before octets both put start empty kept p is =
    let q : IsPut p.part true none both = subst (λ b. IsPut p.part b none both) put p.put in
    (p.part, p.is_read, written_for p.part None none both both before octets empty q refl (kept ∙ start) is)

-- two were, one behind the other
pub parts_written : (read more : Option tree.Data) (b c : Bool) (clear none first both before octets : List ℕ) → true ≡ (b && c) → clear ≡ [] → none ≡ [] → before ≡ clear → IsPartPut read b none first → IsPartPut more c first both
    → octets ≡ before ++ both → (part other : tree.Data) × (read ≡ Some part) × (more ≡ Some other) × IsWrittenFor part (Some other) octets
parts_written read more b c clear none first both before octets put start empty kept p q is =
    let each = and_parts b c (sym put) in
    let one : IsPut p.part true none first = subst (λ b. IsPut p.part b none first) each.0 p.put in
    let two : IsPut q.part true first both = subst (λ b. IsPut q.part b first both) each.1 q.put in
    (p.part, q.part, p.is_read, q.is_read, written_for p.part (Some q.part) none first both before octets empty one two (kept ∙ start) is)

-- ---- what is seen in what was written

rest_written : (o : List ℕ) (b : Bool) → AreWritten o b → value_at 100 o ≡ Ok (first_in o, behind_args o b)
rest_written o b w = ap (value_at 100) w.octets_are ∙ value_again 100 (short (first_in o)) (first_in o) (behind_args o b) (spelled_short (first_in o) w.args)

behind_first : (o : List ℕ) (b : Bool) → AreWritten o b → rest_in 100 o ≡ behind_args o b
behind_first o b w = rest-read 100 o (first_in o) (behind_args o b) (rest_written o b w)

pub written_first : (o : List ℕ) (b : Bool) → AreWritten o b → HasFirst o
written_first o b w = rest_written o b w ∙ ap (λ (r : List ℕ). Ok (first_in o, r)) (sym (behind_first o b w))

second_read : (o : List ℕ) → AreWritten o true → value_at 100 (rest_in 100 o) ≡ Ok (second_in o, [])
second_read o w =
    ap (value_at 100) (behind_first o true w ∙ sym (append-nil (short (second_in o)))) ∙ value_again 100 (short (second_in o)) (second_in o) [] (spelled_short (second_in o) (w.kwargs refl))

pub written_second : (o : List ℕ) → AreWritten o true → HasFirst (rest_in 100 o)
written_second o w = second_read o w ∙ ap (λ (r : List ℕ). Ok (second_in o, r)) (sym (rest-read 100 (rest_in 100 o) (second_in o) [] (second_read o w)))

stands : (d : tree.Data) (octets after : List ℕ) → IsWritable d → octets ≡ short d ++ after → Stands octets after d
stands d octets after w is = record { parts = is; spelled = more_room 99 (short d) d w.spelled; carried = w.carried; has_short = w.has_short }

pub first_stands : (o : List ℕ) (b : Bool) → AreWritten o b → Stands o (behind_args o b) (first_in o)
first_stands o b w = stands (first_in o) o (behind_args o b) w.args w.octets_are

pub second_stands : (o : List ℕ) → AreWritten o true → Stands (short (second_in o)) [] (second_in o)
second_stands o w = stands (second_in o) (short (second_in o)) [] (w.kwargs refl) (sym (append-nil (short (second_in o))))

-- ---- arguments at the end of a message

-- what is held in MessagePack
pub written_ending : (o : List ℕ) (b : Bool) → AreWritten o b → IsEnding MsgPack (written_in o b) o
written_ending o true w = record {
  carried = rw (w.args.carried, (w.kwargs refl).carried) refl;
  spelled = rw (w.args.has_short, (w.kwargs refl).has_short) refl;
  octets_are = w.octets_are ∙ ap (λ x. short (first_in o) ++ x) (sym (append-nil (short (second_in o))));
}
written_ending o false w = record {
  carried = rw w.args.carried refl;
  spelled = rw w.args.has_short refl;
  octets_are = w.octets_are;
}

pub written_carried : (o : List ℕ) (b : Bool) → AreWritten o b → is_all_carried (written_in o b) ≡ true
written_carried o b w = (written_ending o b w).carried

-- trees
pub further_trees : (s : Serializer) (a : tree.Data) (k : Option tree.Data) (old middle new : List ℕ) → middle ≡ old ++ further_one s a → new ≡ middle ++ further_if_any s k → new ≡ old ++ further s (last_items (Some a) k)
further_trees s a None old middle new one more =
    more ∙ (append-nil middle ∙ (one ∙ ap (λ x. old ++ (separator s ++ x)) (sym (append-nil (serialized s a)))))
further_trees s a (Some k) old middle new one more =
    more ∙ (ap (λ x. x ++ further_one s k) one ∙ (append_assoc old (further_one s a) (further_one s k)
    ∙ ap (λ x. old ++ x) (append_assoc (separator s) (serialized s a) (further_one s k) ∙ ap (λ x. separator s ++ (serialized s a ++ x)) (ap (λ x. separator s ++ x) (sym (append-nil (serialized s k)))))))

pub trees_have_spelling : (s : Serializer) (a : tree.Data) (k : Option tree.Data) → items_have_spelling s (last_items (Some a) k) ≡ (has_spelling_one s a && has_spelling_if_any s k)
trees_have_spelling Json a None = refl
trees_have_spelling Json a (Some k) = refl
trees_have_spelling MsgPack a None = refl
trees_have_spelling MsgPack a (Some k) = ap (λ b. has_short a && b) (and-true (has_short k))

-- JSON
pub json_of_two : (a k : tree.Data) (old middle new : List ℕ) → middle ≡ old ++ (44 ∷ json_text a) → new ≡ middle ++ (44 ∷ json_text k) → new ≡ old ++ further Json (last_items (Some a) (Some k))
json_of_two a k old middle new one more = further_trees Json a (Some k) old middle new one more

pub json_of_one : (a : tree.Data) (old new : List ℕ) → new ≡ old ++ (44 ∷ json_text a) → new ≡ old ++ further Json (last_items (Some a) None)
json_of_one a old new one = further_trees Json a None old new new one (sym (append-nil new))

pub written_values : (o : List ℕ) (b : Bool) → AreWritten o b → HasValues o b
written_values o b w = record { args = written_first o b w; kwargs = λ is. written_second o (subst (AreWritten o) is w) }

-- ---- what is spelled

-- whether it was put tells whether it is carried
put_carried : (read : Option tree.Data) (b : Bool) (old new : List ℕ) (part : tree.Data) → IsPartPut read b old new → read ≡ Some part → tree.is_carried part ≡ b
put_carried read b old new part p is =
    let same : p.part ≡ part = cc in
    told b p.part (sym same) p.put
  where
    told : (b : Bool) (d : tree.Data) → part ≡ d → IsPut d b old new → tree.is_carried part ≡ b
    told true d same put = ap tree.is_carried same ∙ put.0.carried
    told false d same put = ap tree.is_carried same ∙ put

spelled_first : (front rest : List ℕ) (d : tree.Data) → Spells 100 front d → value_at 100 (front ++ rest) ≡ Ok (d, rest)
spelled_first front rest d s = value_again 100 front d rest s

has_first : (octets : List ℕ) (d : tree.Data) (rest : List ℕ) → value_at 100 octets ≡ Ok (d, rest) → HasFirst octets
has_first octets d rest e = e ∙ (ap (λ (x : tree.Data). Ok (x, rest)) (sym (value-read 100 octets d rest e)) ∙ ap (λ (r : List ℕ). Ok (first_in octets, r)) (sym (rest-read 100 octets d rest e)))

pub one_spelled : (read : Option tree.Data) (old new before none both clear octets : List ℕ) → IsPartPut read false old new → IsSpelledPut read none both → none ≡ [] → before ≡ clear → clear ≡ [] → octets ≡ before ++ both
    → (part : tree.Data) × (read ≡ Some part) × IsSpelledFor part None octets
one_spelled read old new before none both clear octets p q start kept empty is =
    let all : octets ≡ q.front = is ∙ (ap (λ o. o ++ both) (kept ∙ empty) ∙ (q.behind ∙ ap (λ o. o ++ q.front) start)) in
    let e : value_at 100 octets ≡ Ok (q.part, []) = ap (value_at 100) (all ∙ sym (append-nil q.front)) ∙ spelled_first q.front [] q.part q.spelled in
    let first = value-read 100 octets q.part [] e in
    let carried = put_carried read false old new q.part p q.is_read in (
      q.part,
      q.is_read,
      record {
        spelled = record {
          values = record { args = has_first octets q.part [] e; kwargs = λ is. absurd cc };
          uncarried = ap (λ d. tree.is_carried d && true) first ∙ ap (λ b. b && true) carried;
        };
        same = ap (λ x. record { args = Some x; kwargs = None }) first;
      },
    )

pub two_spelled : (read more : Option tree.Data) (b c : Bool) (old new later before none first both clear octets : List ℕ) → (b && c) ≡ false → IsPartPut read b old new → IsPartPut more c new later
    → IsSpelledPut read none first → IsSpelledPut more first both → none ≡ [] → before ≡ clear → clear ≡ [] → octets ≡ before ++ both
    → (part other : tree.Data) × (read ≡ Some part) × (more ≡ Some other) × IsSpelledFor part (Some other) octets
two_spelled read more b c old new later before none first both clear octets nay p r q s start kept empty is =
    let all : octets ≡ q.front ++ s.front = is ∙ (ap (λ o. o ++ both) (kept ∙ empty) ∙ (s.behind ∙ ap (λ o. o ++ s.front) (q.behind ∙ ap (λ o. o ++ q.front) start))) in
    let e : value_at 100 octets ≡ Ok (q.part, s.front) = ap (value_at 100) all ∙ spelled_first q.front s.front q.part q.spelled in
    let one = value-read 100 octets q.part s.front e in
    let rest : rest_in 100 octets ≡ s.front = rest-read 100 octets q.part s.front e in
    let f : value_at 100 (rest_in 100 octets) ≡ Ok (s.part, []) = ap (value_at 100) (rest ∙ sym (append-nil s.front)) ∙ spelled_first s.front [] s.part s.spelled in
    let two = value-read 100 (rest_in 100 octets) s.part [] f in (
      q.part,
      s.part,
      q.is_read,
      s.is_read,
      record {
        spelled = record {
          values = record { args = has_first octets q.part s.front e; kwargs = λ is. has_first (rest_in 100 octets) s.part [] f };
          uncarried = ap (λ d. tree.is_carried d && tree.is_carried (second_in octets)) one ∙ (ap (λ d. tree.is_carried q.part && tree.is_carried d) two
              ∙ (ap (λ x. x && tree.is_carried s.part) (put_carried read b old new q.part p q.is_read) ∙ (ap (λ x. b && x) (put_carried more c new later s.part r s.is_read) ∙ nay)));
        };
        same = ap (λ x. record { args = Some x; kwargs = Some (second_in octets) }) one ∙ ap (λ x. record { args = Some q.part; kwargs = Some x }) two;
      },
    )

-- an empty list and an empty dictionary, as they are put
pub spelled_list : Spells 100 (144 ∷ []) (tree.list tree.no_items)
spelled_list = subst (λ o. Spells 100 o (tree.list tree.no_items)) short_list (spelled_short (tree.list tree.no_items) empty_list)

pub spelled_dict : Spells 100 (128 ∷ []) (tree.dict tree.no_entries)
spelled_dict = subst (λ o. Spells 100 o (tree.dict tree.no_entries)) short_dict (spelled_short (tree.dict tree.no_entries) empty_dict)
