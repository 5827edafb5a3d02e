-- A world and a step have one outcome.
use Rattle.std.proofs.Common.{◌≡◌, ℕ, ◌≤◌, ◌<◌, Bool, true, false, List, [], ◌∷◌, ◌++◌, length, drop, get_or, refl, sym, ap, subst, ◌∙◌, arith, inl, inr}
use Rattle.std.specs.Prelude.{◌⊎◌}
use Rattle.std.specs.declared.option.Option.{Option}
use Rattle.wamp_messages.specs.declared.item.Item.{Item}
use Rattle.realm.specs.declared.entry.Entry.{Entry}
use Rattle.realm.specs.declared.entry.Entry.TheVariants.{Cut}
use Rattle.realm_core.specs.declared.step.Step.{Step}
use Rattle.realm_core.specs.declared.step.Step.TheVariants.{Post, Accept, Lose, Push, Take, Leave}
use Rattle.realm_core.specs.declared.step.Stepped.{Stepped}
use Rattle.realm_core.specs.declared.step.Stepped.TheVariants.{Posted, Accepted, Dropped, Lost, Pushed, FoundFull, Took, Left, Idle}
use Rattle.realm.specs.History.{◌▷◌}
use Rattle.realm.specs.Sessions.{conn_of, live, may_come}
use Rattle.realm.proofs.Lemmas.{alike, clash}
use Rattle.realm_core.specs.Worlds.{Course, waiting, was_full, is_in, may_leave, Enters, EntersIfLive, Posts, Accepts, Loses, Pushes, Takes, Leaves, Moves}

pub not-nil : {X : Type 0} (x : X) (xs : List X) → x ∷ xs ≡ [] → ⊥
not-nil x xs e = cc

enters-once : (w : Course) (e : Entry) (u v : Course) → Enters w e u → Enters w e v → u ≡ v
enters-once w e u v a b =
    let same : a.given ≡ b.given = alike a.given b.given a.exactly.ascending b.exactly.ascending (λ c. a.exactly.each c ∙ sym (b.exactly.each c)) in
    a.after ∙ ap (λ given. record w { history = w.history ▷ e; pushing = given }) same ∙ sym b.after

if-once : (t : Bool) (w : Course) (e : Entry) (u v : Course) → EntersIfLive t w e u → EntersIfLive t w e v → u ≡ v
if-once true w e u v a b = enters-once w e u v a b
if-once false w e u v a b = a ∙ sym b

-- the first, and the rest
pub heads : {X : Type 0} (x y : X) (xs ys : List X) → x ∷ xs ≡ y ∷ ys → x ≡ y
heads x y xs ys e = ap (λ l. get_or l 0 x) e

pub rests : {X : Type 0} (x y : X) (xs ys : List X) → x ∷ xs ≡ y ∷ ys → xs ≡ ys
rests x y xs ys e = ap (drop 1) e

posts-once : (w : Course) (e : Entry) (s t : Stepped) (u v : Course) → Posts w e s u → Posts w e t v → (s ≡ t) × (u ≡ v)
posts-once w e Posted Posted u v a b = (refl, a.1 ∙ sym b.1)
posts-once w e Posted Idle u v a b = absurd (let x = a.0 in let y = b.0 in let bad : ⊥ = omega arith in bad)
posts-once w e Posted t u v a b = absurd b
posts-once w e Idle Posted u v a b = absurd (let x = a.0 in let y = b.0 in let bad : ⊥ = omega arith in bad)
posts-once w e Idle Idle u v a b = (refl, a.1 ∙ sym b.1)
posts-once w e Idle t u v a b = absurd b
posts-once w e s t u v a b = absurd a

accepts-once : (w : Course) (s t : Stepped) (u v : Course) → Accepts w s u → Accepts w t v → (s ≡ t) × (u ≡ v)
accepts-once w Accepted Accepted u v (e, xs, front, come, enters) (f, ys, front2, come2, enters2) =
    let entry : e ≡ f = heads e f xs ys (sym front ∙ front2) in
    let rest : xs ≡ ys = rests e f xs ys (sym front ∙ front2) in
    (refl, enters-once (record w { inbox = ys }) f u v (subst (λ l. Enters (record w { inbox = l }) f u) rest (subst (λ x. Enters (record w { inbox = xs }) x u) entry enters)) enters2)
accepts-once w Accepted Dropped u v (e, xs, front, come, enters) (f, ys, front2, refused, after) =
    clash (may_come w.history f) (subst (λ x. may_come w.history x ≡ true) (heads e f xs ys (sym front ∙ front2)) come) refused
accepts-once w Accepted Idle u v (e, xs, front, come, enters) b = absurd (not-nil e xs (sym front ∙ b.0))
accepts-once w Accepted t u v a b = absurd b
accepts-once w Dropped Accepted u v (e, xs, front, refused, after) (f, ys, front2, come, enters) =
    clash (may_come w.history e) (subst (λ x. may_come w.history x ≡ true) (sym (heads e f xs ys (sym front ∙ front2))) come) refused
accepts-once w Dropped Dropped u v (e, xs, front, refused, after) (f, ys, front2, refused2, after2) =
    (refl, after ∙ ap (λ l. record w { inbox = l }) (rests e f xs ys (sym front ∙ front2)) ∙ sym after2)
accepts-once w Dropped Idle u v (e, xs, front, refused, after) b = absurd (not-nil e xs (sym front ∙ b.0))
accepts-once w Dropped t u v a b = absurd b
accepts-once w Idle Accepted u v a (f, ys, front2, come, enters) = absurd (not-nil f ys (sym front2 ∙ a.0))
accepts-once w Idle Dropped u v a (f, ys, front2, refused, after) = absurd (not-nil f ys (sym front2 ∙ a.0))
accepts-once w Idle Idle u v a b = (refl, a.1 ∙ sym b.1)
accepts-once w Idle t u v a b = absurd b
accepts-once w s t u v a b = absurd a

loses-once : (w : Course) (word : Option ℕ) (s t : Stepped) (u v : Course) → Loses w word s u → Loses w word t v → (s ≡ t) × (u ≡ v)
loses-once w word Lost Lost u v (e, xs, front, loses) (f, ys, front2, loses2) =
    let entry : e ≡ f = heads e f xs ys (sym front ∙ front2) in
    let rest : xs ≡ ys = rests e f xs ys (sym front ∙ front2) in
    let first = subst (λ x. EntersIfLive (live w.history (conn_of x)) (record w { inbox = xs; lost = w.lost ++ x ∷ [] }) (Cut (conn_of x) word) u) entry loses in
    let same = subst (λ l. EntersIfLive (live w.history (conn_of f)) (record w { inbox = l; lost = w.lost ++ f ∷ [] }) (Cut (conn_of f) word) u) rest first in
    (refl, if-once (live w.history (conn_of f)) (record w { inbox = ys; lost = w.lost ++ f ∷ [] }) (Cut (conn_of f) word) u v same loses2)
loses-once w word Lost Idle u v (e, xs, front, loses) b = absurd (not-nil e xs (sym front ∙ b.0))
loses-once w word Lost t u v a b = absurd b
loses-once w word Idle Lost u v a (f, ys, front2, loses2) = absurd (not-nil f ys (sym front2 ∙ a.0))
loses-once w word Idle Idle u v a b = (refl, a.1 ∙ sym b.1)
loses-once w word Idle t u v a b = absurd b
loses-once w word s t u v a b = absurd a

-- the item that is pushed, and what waits behind it
conns : (c d : ℕ) (i j : Item) (xs ys : List (ℕ × Item)) → (c, i) ∷ xs ≡ (d, j) ∷ ys → c ≡ d
conns c d i j xs ys e = ap (λ (x : ℕ × Item). x.0) (heads (c, i) (d, j) xs ys e)

pub pushed-once : (w : Course) (c d : ℕ) (i j : Item) (xs ys : List (ℕ × Item)) → (c, i) ∷ xs ≡ (d, j) ∷ ys
    → ◌≡◌ {A = Course} (record w { pushing = xs; added = w.added ++ (c, i) ∷ [] }) (record w { pushing = ys; added = w.added ++ (d, j) ∷ [] })
pushed-once w c d i j xs ys e =
    ap (λ l. record w { pushing = l; added = w.added ++ (c, i) ∷ [] }) (rests (c, i) (d, j) xs ys e)
    ∙ ap (λ x. record w { pushing = ys; added = w.added ++ x ∷ [] }) (heads (c, i) (d, j) xs ys e)

marked-once : (w : Course) (c d : ℕ) (i j : Item) (xs ys : List (ℕ × Item)) → (c, i) ∷ xs ≡ (d, j) ∷ ys
    → ◌≡◌ {A = Course} (record w { pushing = xs; full = w.full ++ c ∷ [] }) (record w { pushing = ys; full = w.full ++ d ∷ [] })
marked-once w c d i j xs ys e =
    ap (λ l. record w { pushing = l; full = w.full ++ c ∷ [] }) (rests (c, i) (d, j) xs ys e)
    ∙ ap (λ n. record w { pushing = ys; full = w.full ++ n ∷ [] }) (conns c d i j xs ys e)

found-once : (w : Course) (c d : ℕ) (i j : Item) (xs ys : List (ℕ × Item)) (u v : Course) → (c, i) ∷ xs ≡ (d, j) ∷ ys
    → ((was_full w c ≡ true) × (u ≡ record w { pushing = xs })) ⊎ ((was_full w c ≡ false) × (w.outbox_cap ≤ length (waiting w c)) × (u ≡ record w { pushing = xs; full = w.full ++ c ∷ [] }))
    → ((was_full w d ≡ true) × (v ≡ record w { pushing = ys })) ⊎ ((was_full w d ≡ false) × (w.outbox_cap ≤ length (waiting w d)) × (v ≡ record w { pushing = ys; full = w.full ++ d ∷ [] }))
    → u ≡ v
found-once w c d i j xs ys u v e (inl a) (inl b) = a.1 ∙ ap (λ l. record w { pushing = l }) (rests (c, i) (d, j) xs ys e) ∙ sym b.1
found-once w c d i j xs ys u v e (inl a) (inr b) = clash (was_full w d) (subst (λ n. was_full w n ≡ true) (conns c d i j xs ys e) a.0) b.0
found-once w c d i j xs ys u v e (inr a) (inl b) = clash (was_full w c) (subst (λ n. was_full w n ≡ true) (sym (conns c d i j xs ys e)) b.0) a.0
found-once w c d i j xs ys u v e (inr a) (inr b) = a.2 ∙ marked-once w c d i j xs ys e ∙ sym b.2

room-or-full : (w : Course) (c d : ℕ) (i j : Item) (xs ys : List (ℕ × Item)) (v : Course) → (c, i) ∷ xs ≡ (d, j) ∷ ys → was_full w c ≡ false → length (waiting w c) < w.outbox_cap
    → ((was_full w d ≡ true) × (v ≡ record w { pushing = ys })) ⊎ ((was_full w d ≡ false) × (w.outbox_cap ≤ length (waiting w d)) × (v ≡ record w { pushing = ys; full = w.full ++ d ∷ [] })) → ⊥
room-or-full w c d i j xs ys v e free room (inl b) = clash (was_full w d) b.0 (subst (λ n. was_full w n ≡ false) (conns c d i j xs ys e) free)
room-or-full w c d i j xs ys v e free room (inr b) =
    let same : length (waiting w c) ≡ length (waiting w d) = ap (λ n. length (waiting w n)) (conns c d i j xs ys e) in
    let x = b.1 in
    let bad : ⊥ = omega arith in bad

pushes-once : (w : Course) (s t : Stepped) (u v : Course) → Pushes w s u → Pushes w t v → (s ≡ t) × (u ≡ v)
pushes-once w Pushed Pushed u v (c, i, xs, front, free, room, after) (d, j, ys, front2, free2, room2, after2) =
    (refl, after ∙ pushed-once w c d i j xs ys (sym front ∙ front2) ∙ sym after2)
pushes-once w Pushed FoundFull u v (c, i, xs, front, free, room, after) (d, j, ys, front2, found) =
    absurd (room-or-full w c d i j xs ys v (sym front ∙ front2) free room found)
pushes-once w Pushed Idle u v (c, i, xs, front, free, room, after) b = absurd (not-nil (c, i) xs (sym front ∙ b.0))
pushes-once w Pushed t u v a b = absurd b
pushes-once w FoundFull Pushed u v (c, i, xs, front, found) (d, j, ys, front2, free2, room2, after2) =
    absurd (room-or-full w d c j i ys xs u (sym front2 ∙ front) free2 room2 found)
pushes-once w FoundFull FoundFull u v (c, i, xs, front, found) (d, j, ys, front2, found2) =
    (refl, found-once w c d i j xs ys u v (sym front ∙ front2) found found2)
pushes-once w FoundFull Idle u v (c, i, xs, front, found) b = absurd (not-nil (c, i) xs (sym front ∙ b.0))
pushes-once w FoundFull t u v a b = absurd b
pushes-once w Idle Pushed u v a (d, j, ys, front2, free2, room2, after2) = absurd (not-nil (d, j) ys (sym front2 ∙ a.0))
pushes-once w Idle FoundFull u v a (d, j, ys, front2, found2) = absurd (not-nil (d, j) ys (sym front2 ∙ a.0))
pushes-once w Idle Idle u v a b = (refl, a.1 ∙ sym b.1)
pushes-once w Idle t u v a b = absurd b
pushes-once w s t u v a b = absurd a

takes-once : (w : Course) (c : ℕ) (s t : Stepped) (u v : Course) → Takes w c s u → Takes w c t v → (s ≡ t) × (u ≡ v)
takes-once w c (Took i) (Took j) u v (xs, front, after) (ys, front2, after2) =
    let same : i ≡ j = heads i j xs ys (sym front ∙ front2) in
    (ap Took same, after ∙ ap (λ k. record w { taken = w.taken ++ (c, k) ∷ [] }) same ∙ sym after2)
takes-once w c (Took i) Idle u v (xs, front, after) b = absurd (not-nil i xs (sym front ∙ b.0))
takes-once w c (Took i) t u v a b = absurd b
takes-once w c Idle (Took j) u v a (ys, front2, after2) = absurd (not-nil j ys (sym front2 ∙ a.0))
takes-once w c Idle Idle u v a b = (refl, a.1 ∙ sym b.1)
takes-once w c Idle t u v a b = absurd b
takes-once w c s t u v a b = absurd a

none-in : (c : ℕ) (cs : List ℕ) → is_in c cs ≡ true → cs ≡ [] → ⊥
none-in c cs here none = clash (is_in c cs) here (ap (is_in c) none)

leaves-once : (w : Course) (word : Option ℕ) (s t : Stepped) (u v : Course) → Leaves w word s u → Leaves w word t v → (s ≡ t) × (u ≡ v)
leaves-once w word Left Left u v (c, least, enters) (d, least2, enters2) =
    let one : c ≤ d = least.least d least2.among in
    let other : d ≤ c = least2.least c least.among in
    let same : c ≡ d = omega arith in
    (refl, enters-once w (Cut d word) u v (subst (λ n. Enters w (Cut n word) u) same enters) enters2)
leaves-once w word Left Idle u v (c, least, enters) b = absurd (none-in c (may_leave w) least.among b.0)
leaves-once w word Left t u v a b = absurd b
leaves-once w word Idle Left u v a (d, least2, enters2) = absurd (none-in d (may_leave w) least2.among a.0)
leaves-once w word Idle Idle u v a b = (refl, a.1 ∙ sym b.1)
leaves-once w word Idle t u v a b = absurd b
leaves-once w word s t u v a b = absurd a

pub one-outcome : (w u v : Course) (step : Step) (s t : Stepped) → Moves w step s u → Moves w step t v → (s ≡ t) × (u ≡ v)
one-outcome w u v (Post e) s t a b = posts-once w e s t u v a b
one-outcome w u v Accept s t a b = accepts-once w s t u v a b
one-outcome w u v (Lose word) s t a b = loses-once w word s t u v a b
one-outcome w u v Push s t a b = pushes-once w s t u v a b
one-outcome w u v (Take c) s t a b = takes-once w c s t u v a b
one-outcome w u v (Leave word) s t a b = leaves-once w word s t u v a b
