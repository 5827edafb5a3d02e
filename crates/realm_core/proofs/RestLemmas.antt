-- One entry of a world at rest, and its items pushed and taken in turn.
use Rattle.std.proofs.Common.{◌≡◌, ℕ, ◌≤◌, ◌<◌, true, false, cond, List, [], ◌∷◌, ◌++◌, length, drop, refl, sym, ap, subst, ◌∙◌, append-nil, append_assoc, arith, inl, inr, Some}
use Rattle.std.specs.List.{filter}
use Rattle.std.proofs.lemmas.Bool.{eq-eqb}
use Rattle.std.proofs.Math.Seq.{drop-length}
use Rattle.wamp_messages.specs.declared.item.Item.{Item}
use Rattle.realm.specs.declared.entry.Entry.{Entry}
use Rattle.realm_core.specs.declared.step.Step.TheVariants.{Post, Accept, Push, Take}
use Rattle.realm_core.specs.declared.step.Stepped.{Stepped}
use Rattle.realm_core.specs.declared.step.Stepped.TheVariants.{Posted, Accepted, Dropped, Pushed, FoundFull, Took, Idle}
use Rattle.realm.specs.History.{History}
use Rattle.realm.specs.Sessions.{live, may_come}
use Rattle.realm.specs.Given.{items_for, GivesExactly}
use Rattle.realm_core.specs.Worlds.{Course, new_world, waiting, was_full, is_in, marked, unless_any, may_enter, Enters, Posts, Accepts, Pushes, Takes, StaysOut, EntersAtMost}
use Rattle.realm_core.specs.body.Runs.{taken_with, Advances}
use Rattle.realm_core.specs.body.Rest.{IsAtRest, IsGiving, IsFirstOf, GivesLast}
use Rattle.realm.specs.Grants.{Grants}
use Rattle.realm.proofs.Lemmas.{clash}
use Rattle.realm_core.proofs.ItemLists.{if_for, items_for-last}
use Rattle.realm_core.proofs.QueueLemmas.{between-is}
use Rattle.realm_core.proofs.OneOutcome.{not-nil, heads, rests, pushed-once}

posted-is : (w : Course) (e : Entry) (s : Stepped) (u : Course) → IsAtRest w → Posts w e s u → u ≡ record w { posted = w.posted ++ e ∷ []; inbox = w.inbox ++ e ∷ [] }
posted-is w e Posted u rest m = m.1
posted-is w e Idle u rest m =
    let none : length w.inbox ≡ 0 = ap length rest.inbox in
    let full = m.0 in
    let room = rest.inbox_room in
    absurd (let bad : ⊥ = omega arith in bad)
posted-is w e s u rest m = absurd m

-- what may enter a world in which nothing else waits
enters-is : (w : Course) (e : Entry) → w.pushing ≡ [] → w.full ≡ [] → w.inbox ≡ e ∷ [] → may_enter w ≡ e ∷ []
enters-is w e pushing full inbox =
    ap (λ l. unless_any l (unless_any (marked w) w.inbox)) pushing
    ∙ ap (λ l. unless_any (filter (live w.history) l) w.inbox) full
    ∙ inbox

accepted-is : (w : Course) (e : Entry) (s : Stepped) (v : Course) → may_enter w ≡ e ∷ [] → may_come w.history e ≡ true → Accepts w s v → Enters (record w { inbox = [] }) e v
accepted-is w e Accepted v front come (f, xs, front2, come2, enters) =
    let entry : f ≡ e = heads f e xs [] (sym front2 ∙ front) in
    let rest : xs ≡ [] = rests f e xs [] (sym front2 ∙ front) in
    subst (λ x. Enters (record w { inbox = [] }) x v) entry (subst (λ l. Enters (record w { inbox = l }) f v) rest enters)
accepted-is w e Dropped v front come (f, xs, front2, refused, after) =
    clash (may_come w.history e) come (subst (λ x. may_come w.history x ≡ false) (heads f e xs [] (sym front2 ∙ front)) refused)
accepted-is w e Idle v front come m = absurd (not-nil e [] (sym front ∙ m.0))
accepted-is w e s v front come m = absurd m

pub giving-begun : (w u v : Course) (e : Entry) (a b d : List (ℕ × Item)) → IsAtRest w → may_come w.history e ≡ true → a ≡ [] → Advances w (Post e) u a b → Advances u Accept v b d → IsGiving w.history e v d
giving-begun w u v e a b d rest come empty first second =
    let mid = record w { posted = w.posted ++ e ∷ []; inbox = w.inbox ++ e ∷ [] } in
    let is : u ≡ mid = posted-is w e first.stepped u rest first.moves in
    let accepts : Accepts mid second.stepped v = subst (λ x. Accepts x second.stepped v) is second.moves in
    let front : may_enter mid ≡ e ∷ [] = enters-is mid e rest.pushing rest.full (ap (λ l. l ++ e ∷ []) rest.inbox) in
    let enters = accepted-is mid e second.stepped v front come accepts in
    let nothing : d ≡ [] = second.taken ∙ append-nil b ∙ first.taken ∙ append-nil a ∙ empty in
    subst (λ x. IsGiving w.history e x d) (sym enters.after) (record {
      inbox_room = rest.inbox_room;
      outbox_room = rest.outbox_room;
      inbox = refl;
      full = rest.full;
      all_taken = rest.all_taken;
      history = refl;
      gives = subst (λ l. GivesExactly w.history e (l ++ enters.given)) (sym nothing) enters.exactly;
    })

nothing-waits : (w : Course) (c : ℕ) → ((d : ℕ) → items_for d w.added ≡ items_for d w.taken) → waiting w c ≡ []
nothing-waits w c all = ap (drop (length (items_for c w.taken))) (all c) ∙ drop-length (items_for c w.taken)

pushed-is : (w : Course) (c : ℕ) (item : Item) (rest : List (ℕ × Item)) (s : Stepped) (u : Course) → 1 ≤ w.outbox_cap → w.full ≡ [] → ((d : ℕ) → waiting w d ≡ [])
    → w.pushing ≡ (c, item) ∷ rest → Pushes w s u → u ≡ record w { pushing = rest; added = w.added ++ (c, item) ∷ [] }
pushed-is w c item rest Pushed u room full none is (d, j, xs, front, free, fits, after) = after ∙ pushed-once w d c j item xs rest (sym front ∙ is)
pushed-is w c item rest FoundFull u room full none is (d, j, xs, front, found) = absurd (elim found [
  | inl before ↦ clash (was_full w d) before.0 (ap (is_in d) full)
  | inr now ↦ (let empty : length (waiting w d) ≡ 0 = ap length (none d) in let holds = now.1 in let bad : ⊥ = omega arith in bad)
])
pushed-is w c item rest Idle u room full none is m = absurd (not-nil (c, item) rest (sym is ∙ m.0))
pushed-is w c item rest s u room full none is m = absurd m

-- the one item that waits is taken
pub record TakesOne (w : Course) (c : ℕ) (item : Item) (s : Stepped) (v : Course) : Type 0 where
  pub after : v ≡ record w { taken = w.taken ++ (c, item) ∷ [] }
  pub took : taken_with (Some c) s ≡ (c, item) ∷ []

taken-is : (w : Course) (c : ℕ) (item : Item) (s : Stepped) (v : Course) → waiting w c ≡ item ∷ [] → Takes w c s v → TakesOne w c item s v
taken-is w c item (Took j) v one (xs, front, after) =
    let same : j ≡ item = heads j item xs [] (sym front ∙ one) in
    record { after = after ∙ ap (λ k. record w { taken = w.taken ++ (c, k) ∷ [] }) same; took = ap (λ k. (c, k) ∷ []) same }
taken-is w c item Idle v one m = absurd (not-nil item [] (sym one ∙ m.0))
taken-is w c item s v one m = absurd m

-- one item more
pub giving-next : (h : History) (e : Entry) (w u v : Course) (c : ℕ) (a b d : List (ℕ × Item)) → IsGiving h e w a → IsFirstOf c w.pushing → Advances w Push u a b → Advances u (Take c) v b d
    → IsGiving h e v d × (length v.pushing < length w.pushing)
giving-next h e w u v c a b d giving first one two =
    let item = first.item in
    let rest = first.rest in
    let mid = record w { pushing = rest; added = w.added ++ (c, item) ∷ [] } in
    let is : u ≡ mid = pushed-is w c item rest one.stepped u giving.outbox_room giving.full (λ n. nothing-waits w n giving.all_taken) first.is one.moves in
    let takes : Takes mid c two.stepped v = subst (λ x. Takes x c two.stepped v) is two.moves in
    let own : if_for c c item ≡ item ∷ [] = ap (λ t. cond t (item ∷ []) []) (eq-eqb c c refl) in
    let waits : waiting mid c ≡ item ∷ [] =
    between-is c (w.added ++ (c, item) ∷ []) w.taken (item ∷ []) (items_for-last c c item w.added ∙ ap (λ l. l ++ if_for c c item) (giving.all_taken c) ∙ ap (λ l. items_for c w.taken ++ l) own) in
    let taken = taken-is mid c item two.stepped v waits takes in
    let log : d ≡ a ++ (c, item) ∷ [] = two.taken ∙ ap (λ l. b ++ l) taken.took ∙ ap (λ l. l ++ (c, item) ∷ []) (one.taken ∙ append-nil a) in
    let whole : a ++ w.pushing ≡ d ++ rest = ap (λ l. a ++ l) first.is ∙ sym (append_assoc a ((c, item) ∷ []) rest) ∙ ap (λ l. l ++ rest) (sym log) in
    let shorter : length w.pushing ≡ length ((c, item) ∷ rest) = ap length first.is in (
      subst (λ x. IsGiving h e x d) (sym taken.after) (record {
        inbox_room = giving.inbox_room;
        outbox_room = giving.outbox_room;
        inbox = giving.inbox;
        full = giving.full;
        all_taken = λ n. items_for-last n c item w.added ∙ ap (λ l. l ++ if_for n c item) (giving.all_taken n) ∙ sym (items_for-last n c item w.taken);
        history = giving.history;
        gives = subst (GivesExactly h e) whole giving.gives;
      }),
      subst (λ x. length x.pushing < length w.pushing) (sym taken.after) (let less : length rest < length w.pushing = omega arith in less),
    )

-- a new world is at rest
pub new-rests : (grants : Grants) (inbox_cap outbox_cap : ℕ) → 1 ≤ inbox_cap → 1 ≤ outbox_cap → IsAtRest (new_world grants inbox_cap outbox_cap)
new-rests grants inbox_cap outbox_cap inbox outbox = record {
  inbox_room = inbox;
  outbox_room = outbox;
  inbox = refl;
  pushing = refl;
  full = refl;
  all_taken = λ c. refl;
}

pub post-keeps-history : (w : Course) (e : Entry) (s : Stepped) (u : Course) → Posts w e s u → u.history ≡ w.history
post-keeps-history w e Posted u m = ap (λ x. x.history) m.1
post-keeps-history w e Idle u m = ap (λ x. x.history) m.1
post-keeps-history w e s u m = absurd m

pub push-keeps-history : (w : Course) (s : Stepped) (u : Course) → Pushes w s u → u.history ≡ w.history
push-keeps-history w Pushed u (d, j, xs, front, free, fits, after) = ap (λ x. x.history) after
push-keeps-history w FoundFull u (d, j, xs, front, found) = elim found [
  | inl before ↦ ap (λ x. x.history) before.1
  | inr (free, room, after) ↦ ap (λ x. x.history) after
]
push-keeps-history w Idle u m = ap (λ x. x.history) m.1
push-keeps-history w s u m = absurd m

-- an entry of a world at rest enters
pub entered : (w u v : Course) (e : Entry) (s t : Stepped) → IsAtRest w → may_come w.history e ≡ true → Posts w e s u → Accepts u t v → IsGiving w.history e v []
entered w u v e s t rest come posts accepts =
    giving-begun w u v e [] [] [] rest come refl (record { stepped = s; moves = posts; taken = refl }) (record { stepped = t; moves = accepts; taken = refl })

-- what was taken of an entry is all that it gives once nothing waits
pub gives-last : (h : History) (e : Entry) (w : Course) (given : List (ℕ × Item)) → IsGiving h e w given → w.pushing ≡ [] → GivesLast w.history given
gives-last h e w given giving empty =
    subst (λ x. GivesLast x given) (sym giving.history) (subst (GivesExactly h e) (ap (λ l. given ++ l) empty ∙ append-nil given) giving.gives)

pub given-rests : (h : History) (e : Entry) (w : Course) (given : List (ℕ × Item)) → IsGiving h e w given → w.pushing ≡ [] → IsAtRest w
given-rests h e w given giving empty = record {
  inbox_room = giving.inbox_room;
  outbox_room = giving.outbox_room;
  inbox = giving.inbox;
  pushing = empty;
  full = giving.full;
  all_taken = giving.all_taken;
}

-- where nothing happened, the entry stays out
pub unmoved : (w : Course) (e : Entry) (v : Course) → v ≡ w → StaysOut w e v
unmoved w e v same = inl same

-- what was posted and not accepted stays out
pub posted-waits : (w : Course) (e : Entry) (s : Stepped) (u v : Course) → Posts w e s u → v ≡ u → StaysOut w e v
posted-waits w e Posted u v posts same = inr (subst (λ x. Posts w e Posted x) (sym same) posts)
posted-waits w e Idle u v posts same = inl (same ∙ posts.1)
posted-waits w e s u v posts same = absurd posts

-- the entry stayed out
pub stayed-out : (w : Course) (e : Entry) (v : Course) → StaysOut w e v → EntersAtMost w e v
stayed-out w e v out = inl out

-- the entry entered, and then items alone were taken
pub entered-alone : (w : Course) (e : Entry) (u v : Course) (given : List (ℕ × Item)) → IsGiving w.history e u given
    → v.history ≡ u.history → EntersAtMost w e v
entered-alone w e u v given giving same = inr (same ∙ giving.history)
