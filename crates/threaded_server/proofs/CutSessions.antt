-- What an actor's run makes of a realm's history: whom it cuts, and in which order it closes.
use Rattle.std.proofs.Common.{◌≡◌, ◌⊎◌, ◌<◌, ◌≤◌, ◌+◌, ℕ, zero, suc, Bool, true, false, eqb, List, [], ◌∷◌, ◌++◌, Option, None, Some, MatchOption, cond, length, get_or, option_map, slice_get, refl, sym, ap, ◌∙◌, subst, ⊎_elim, inl, inr, arith, length-append}
use Rattle.std.specs.Prelude.{⊤}
use Rattle.std.specs.List.{insert}
use mathlib.Core.List.{IsPrefix}
use Rattle.std.proofs.lemmas.Bool.{eq-eqb, eqb-true, false_from_ne_true}
use Rattle.std.proofs.lemmas.Option.{none-some, same_Some}
use Rattle.realm.specs.History.{History, ◌▷◌}
use Rattle.realm.specs.Sessions.{live}
use Rattle.realm.specs.Yield.{owed}
use Rattle.realm.specs.declared.entry.Entry.{Entry}
use Rattle.realm.specs.declared.entry.Entry.TheVariants as entry
use Rattle.realm_actor.proofs.LastCutLemmas.{EachMoved, accepted_went, insert_other, looked_up, moved_by, moved_marked, moved_on, moved_went, same_after}
use Rattle.realm_actor.proofs.RowPlaces.{beside}
use Rattle.realm_actor.specs.ActorView.{Acting, Working, standing_in}
use Rattle.realm_actor.specs.Cuts.{Accepted, Cuts, IsCutOf, IsFull, IsLeastFull}
use Rattle.realm_actor.specs.Cuts as cutting
use Rattle.realm_actor.specs.Handle.{Brings, EachUnmarked, Loses, WithRow, entry_of, is_dropped}
use Rattle.realm_actor.specs.Handle as handling
use Rattle.realm_actor.specs.LastCut.{outbox_of}
use Rattle.realm_actor.specs.OutboxHistory.{Box, Follows}
use Rattle.realm_actor.specs.Rows.{Ascending, RowDue, box_in}
use Rattle.realm_actor.specs.Run.{Handles, Ran, Runs}
use Rattle.realm_actor.specs.Run as running
use Rattle.realm_actor.specs.Settle.{Sweeps}
use Rattle.realm_actor.specs.Stop.{Closes, ClosesOne}
use Rattle.realm_actor.specs.Stop as closing
use Rattle.realm_actor.specs.Tables.{BoxWent, EachMarked, EachWent, Sound, Standing, Went}
use Rattle.realm_actor.specs.declared.outcome.Outcome.{Outcome}
use Rattle.realm_actor.specs.declared.outcome.Outcome.TheVariants.{Applied, Dropped, NoMemory}
use Rattle.realm_actor.specs.declared.row.HeldOutbox.{HeldOutbox}
use Rattle.realm_actor.specs.declared.row.Row.{Row}
use Rattle.realm_inbox.specs.Seats.{act_of_letter, conn_of_letter}
use Rattle.realm_inbox.specs.declared.act.Act as the
use Rattle.realm_inbox.specs.declared.act.Act.TheVariants.{Gone, Join, Ping, Said, Spoilt}
use Rattle.realm_inbox.specs.declared.joining.Joining.{Joining}
use Rattle.realm_inbox.specs.declared.letter.Letter.{Letter}
use Rattle.realm_inbox.specs.declared.letter.Post.{Post}
use Rattle.realm_inbox.specs.declared.letter.Post.TheVariants.{Act, Stop}
use Rattle.threaded_server.proofs.Places.{get_last, get_more}
use Rattle.threaded_server.specs.Histories.{ClosesOn, CutsOn, FilledOutbox, HandlesAll, HandlesOne}
use Rattle.threaded_server.specs.Histories as of

some_or_none : (n : ℕ) → (n ≡ 0) ⊎ (0 < n)
some_or_none zero = inl refl
some_or_none (suc n) = inr (omega arith)

-- what begins a list is no longer than that
no_longer : {A : Type 0} (xs ys : List A) → IsPrefix xs ys → length xs ≤ length ys
no_longer xs ys p = let whole : length xs + length p.0 ≡ length ys = sym (length-append xs p.0) ∙ ap length p.1 in omega arith

module _ {S : Type 0} where
  -- an outbox of a connection: its Join, which brought it, is one of these posts; and where a step found it full, as many items were added as it holds, or more
  record IsKnown (posts : List (Post S)) (c : ℕ) (o : Box) : Type 0 where
    pub letter : Letter S
    pub joining : Joining S
    pub place : ℕ
    pub stands : slice_get posts place ≡ Some (Act letter)
    pub own : conn_of_letter letter ≡ c
    pub joins : act_of_letter letter ≡ Join joining
    pub capacity : joining.outbox.capacity ≡ o.capacity
    pub conn : o.conn ≡ c
    pub full : 0 < o.full_finds → o.capacity ≤ length o.added

  known_more : (posts : List (Post S)) (p : Post S) (c : ℕ) (o : Box) → IsKnown posts c o → IsKnown (posts ++ p ∷ []) c o
  known_more posts p c o k = record {
    letter = k.letter;
    joining = k.joining;
    place = k.place;
    stands = get_more posts (p ∷ []) k.place (Act k.letter) k.stands;
    own = k.own;
    joins = k.joins;
    capacity = k.capacity;
    conn = k.conn;
    full = k.full;
  }

  -- after an entry
  known_went : (posts : List (Post S)) (c : ℕ) (o p : Box) → Went o p → IsKnown posts c o → IsKnown posts c p
  known_went posts c o p w k = record {
    letter = k.letter;
    joining = k.joining;
    place = k.place;
    stands = k.stands;
    own = k.own;
    joins = k.joins;
    capacity = k.capacity ∙ sym w.capacity;
    conn = w.conn ∙ k.conn;
    full = λ finds. by_finds finds (some_or_none o.full_finds);
  }
    where
      by_finds : 0 < p.full_finds → (o.full_finds ≡ 0) ⊎ (0 < o.full_finds) → p.capacity ≤ length p.added
      by_finds finds (inl none) = let few : o.capacity ≤ length p.added = w.room (omega (arith, finds, none)) in subst (λ (n : ℕ). n ≤ length p.added) (sym w.capacity) few
      by_finds finds (inr some) = let few : o.capacity ≤ length p.added = subst (λ l. o.capacity ≤ length l) (sym (w.marked some).0) (k.full some) in subst (λ (n : ℕ). n ≤ length p.added) (sym w.capacity) few

  -- each outbox that is held is known
  abbrev AllKnown : List (Post S) → List (Row S) → Type 0
  AllKnown posts rows = (c : ℕ) (o : Box) → outbox_of rows c ≡ Some o → IsKnown posts c o

  all_more : (posts : List (Post S)) (p : Post S) (rows : List (Row S)) → AllKnown posts rows → AllKnown (posts ++ p ∷ []) rows
  all_more posts p rows all c o e = known_more posts p c o (all c o e)

  all_by : (posts : List (Post S)) (olds news : List (Row S)) → ((c : ℕ) → BoxWent (outbox_of olds c) (outbox_of news c)) → AllKnown posts olds → AllKnown posts news
  all_by posts olds news went all c p e = by_old (outbox_of olds c) refl (subst (λ (b : Option Box). BoxWent (outbox_of olds c) b) e (went c))
    where
      by_old : (b : Option Box) → outbox_of olds c ≡ b → BoxWent b (Some p) → IsKnown posts c p
      by_old None is w = absurd w
      by_old (Some o) is w = known_went posts c o p w (all c o is)

  all_went : (posts : List (Post S)) (olds news : List (Row S)) → EachWent olds news → AllKnown posts olds → AllKnown posts news
  all_went posts olds news w all = all_by posts olds news (λ c. moved_by [] olds news c (moved_went olds news w)) all

  all_marked : (posts : List (Post S)) (olds news : List (Row S)) (c : ℕ) → EachMarked c olds news → AllKnown posts olds → AllKnown posts news
  all_marked posts olds news d m all = all_by posts olds news (λ c. moved_by (d ∷ []) olds news c (moved_marked d olds news m)) all

  follows : (h : History) (o : Box) (r : Row S) → box_in r ≡ Some o → RowDue h [] r → IsPrefix o.added (owed h o.conn)
  follows h o r is due = by_held r.held is due
    where
      by_held : (held : Option (HeldOutbox S)) → option_map (λ e. e.outbox) held ≡ Some o → MatchOption held ⊤ (λ e. Follows h [] e.outbox) → IsPrefix o.added (owed h o.conn)
      by_held None e due = absurd (none-some o e)
      by_held (Some e) is due = subst (λ (x : Box). IsPrefix x.added (owed h x.conn)) (same_Some e.outbox o is) due.begins

  -- who is found full is owed as many items as the outbox holds, or more
  filled : (posts : List (Post S)) (h : History) (rows : List (Row S)) (c : ℕ) → AllKnown posts rows → Sound h rows → IsLeastFull rows c → FilledOutbox posts h c
  filled posts h rows c all sound least = by_box (box_in least.row) refl least.full
    where
      by_box : (b : Option Box) → box_in least.row ≡ b → IsFull b → FilledOutbox posts h c
      by_box None is full = absurd full
      by_box (Some o) is full =
          let k = all c o (ap (outbox_of rows) (sym least.conn) ∙ looked_up rows least.place least.row sound.ascending least.stands ∙ is) in
          let due = follows h o least.row is (sound.in_step least.place least.row least.stands) in
          let few : o.capacity ≤ length o.added = k.full full.0 in
          let begun : length o.added ≤ length (owed h c) = no_longer o.added (owed h c) (subst (λ (n : ℕ). IsPrefix o.added (owed h n)) k.conn due) in
          record { letter = k.letter; joining = k.joining; place = k.place; stands = k.stands; own = k.own; joins = k.joins; filled = subst (λ (n : ℕ). n ≤ length (owed h c)) (sym k.capacity) (omega (arith, few, begun)) }

  -- the Cuts of a step
  cuts_on : (posts : List (Post S)) {old new : Standing S} {drawn : List ℕ} → Cuts old drawn new → AllKnown posts old.rows → CutsOn posts old.history new.history × AllKnown posts new.rows
  cuts_on posts cutting.Cuts.none all = (of.CutsOn.none, all)
  cuts_on posts {old = old} {new = new} (cutting.Cuts.one_more {mid = mid} {e = e} c word so_far sound least cut is went) all =
      let before = cuts_on posts so_far all in
      let full = filled posts mid.history mid.rows c before.1 sound least in (
        ⊎_elim
            (λ (one : e ≡ entry.Cut c (Some word)). subst (λ l. CutsOn posts old.history l) (sym (is ∙ ap (λ e. mid.history ▷ e) one)) (of.CutsOn.one_more c (Some word) before.0 full))
            (λ (two : e ≡ entry.Cut c None). subst (λ l. CutsOn posts old.history l) (sym (is ∙ ap (λ e. mid.history ▷ e) two)) (of.CutsOn.one_more c None before.0 full))
            cut,
        all_went posts mid.rows new.rows went before.1,
      )

  accepted_on : (posts : List (Post S)) (old new : Standing S) (e : Entry) (drawn : List ℕ) → Accepted old e drawn new → AllKnown posts old.rows → CutsOn posts (old.history ▷ e) new.history × AllKnown posts new.rows
  accepted_on posts old new e drawn a all = cuts_on posts a.cuts (all_went posts old.rows a.mid a.went all)

  -- the marks of a step don't count
  unmarked : (posts : List (Post S)) (ends news : List (Row S)) → EachUnmarked ends news → AllKnown posts ends → AllKnown posts news
  unmarked posts ends news u all c o e = all c o (sym (same_after ends news c u) ∙ e)

  -- what is held where a row was put in is in that row, or was held before
  put_in : (xs : List (Row S)) (i : ℕ) (a : Row S) (c : ℕ) → ((outbox_of (insert xs i a) c ≡ box_in a) × (a.conn ≡ c)) ⊎ (outbox_of (insert xs i a) c ≡ outbox_of xs c)
  put_in xs i a c = by_conn (eqb a.conn c) refl
    where
      here : (ys : List (Row S)) (k : ℕ) → a.conn ≡ c → ((outbox_of (insert ys k a) c ≡ box_in a) × (a.conn ≡ c)) ⊎ (outbox_of (insert ys k a) c ≡ outbox_of ys c)
      here [] zero own = inl (ap (λ b. cond b (box_in a) None) (eq-eqb a.conn c own), own)
      here [] (suc k) own = inl (ap (λ b. cond b (box_in a) None) (eq-eqb a.conn c own), own)
      here (y ∷ ys) zero own = inl (ap (λ b. cond b (box_in a) (outbox_of (y ∷ ys) c)) (eq-eqb a.conn c own), own)
      here (y ∷ ys) (suc k) own = behind (eqb y.conn c) (here ys k own)
        where
          behind : (b : Bool) → ((outbox_of (insert ys k a) c ≡ box_in a) × (a.conn ≡ c)) ⊎ (outbox_of (insert ys k a) c ≡ outbox_of ys c)
              → ((cond b (box_in y) (outbox_of (insert ys k a) c) ≡ box_in a) × (a.conn ≡ c)) ⊎ (cond b (box_in y) (outbox_of (insert ys k a) c) ≡ cond b (box_in y) (outbox_of ys c))
          behind true h = inr refl
          behind false h = h

      by_conn : (b : Bool) → eqb a.conn c ≡ b → ((outbox_of (insert xs i a) c ≡ box_in a) × (a.conn ≡ c)) ⊎ (outbox_of (insert xs i a) c ≡ outbox_of xs c)
      by_conn true is = here xs i (eqb-true a.conn c is)
      by_conn false is = inr (insert_other xs i a c is)

  -- a Join brings its outbox
  all_joined : (posts : List (Post S)) (l : Letter S) (place : ℕ) (joining : Joining S) (olds rows : List (Row S)) → slice_get posts place ≡ Some (Act l) → act_of_letter l ≡ Join joining → joining.outbox.conn ≡ conn_of_letter l
      → Brings (conn_of_letter l) joining olds rows → AllKnown posts olds → AllKnown posts rows
  all_joined posts l place joining olds rows at is own b all c o e = by_row (put_in olds b.place b.row c)
    where
      is_there : outbox_of (insert olds b.place b.row) c ≡ Some o
      is_there = ap (λ l. outbox_of l c) (sym b.rows_are) ∙ e

      by_row : ((outbox_of (insert olds b.place b.row) c ≡ box_in b.row) × (b.row.conn ≡ c)) ⊎ (outbox_of (insert olds b.place b.row) c ≡ outbox_of olds c) → IsKnown posts c o
      by_row (inr before) = all c o (sym before ∙ is_there)
      by_row (inl here) =
          let box : joining.outbox ≡ o = same_Some joining.outbox o (sym b.outbox ∙ sym here.0 ∙ is_there) in
          let conn : conn_of_letter l ≡ c = sym b.conn ∙ here.1 in
          record {
            letter = l;
            joining = joining;
            place = place;
            stands = at;
            own = conn;
            joins = is;
            capacity = ap (λ (x : Box). x.capacity) box;
            conn = ap (λ (x : Box). x.conn) (sym box) ∙ own ∙ conn;
            full = λ some. let none : o.full_finds ≡ 0 = ap (λ (x : Box). x.full_finds) (sym box) ∙ b.never in absurd (omega (arith, some, none));
          }

  all_brought : (posts : List (Post S)) (l : Letter S) (place : ℕ) (act : the.Act S) (olds rows : List (Row S)) → slice_get posts place ≡ Some (Act l) → act_of_letter l ≡ act → WithRow (conn_of_letter l) act olds rows → AllKnown posts olds → AllKnown posts rows
  all_brought posts l place (Join joining) olds rows at is b all = all_joined posts l place joining olds rows at is (l.own joining is) b all
  all_brought posts l place (Said said) olds rows at is b all = subst (λ r. AllKnown posts r) (sym b) all
  all_brought posts l place (Ping payload) olds rows at is b all = subst (λ r. AllKnown posts r) (sym b) all
  all_brought posts l place Spoilt olds rows at is b all = subst (λ r. AllKnown posts r) (sym b) all
  all_brought posts l place Gone olds rows at is b all = subst (λ r. AllKnown posts r) (sym b) all

  -- what an act makes of the history, and which outboxes are held then
  lost_on : (posts : List (Post S)) (l : Letter S) {old new : Working S} → Loses (conn_of_letter l) (act_of_letter l) old new → is_dropped old.history (conn_of_letter l) (act_of_letter l) ≡ false → AllKnown posts old.rows
      → HandlesOne posts old.history (Act l) new.history × AllKnown posts new.rows
  lost_on posts l (handling.Loses.not_live lost dead told few) kept all = (of.HandlesOne.lost l kept dead, all)
  lost_on posts l (handling.Loses.nothing_drawn dead) kept all = (of.HandlesOne.lost l kept dead, all)
  lost_on posts l {old = old} {new = new} (handling.Loses.cut lost word drawn e marked few is marks accepted words) kept all =
      let c = conn_of_letter l in
      let on = accepted_on posts (record { history = old.history; rows = marked }) (standing_in new) e drawn accepted (all_marked posts old.rows marked c marks all) in (
        ⊎_elim
            (λ (one : e ≡ entry.Cut c (Some word)). of.HandlesOne.cut l (Some word) kept (subst (λ f. CutsOn posts (old.history ▷ f) new.history) one on.0))
            (λ (two : e ≡ entry.Cut c None). of.HandlesOne.cut l None kept (subst (λ f. CutsOn posts (old.history ▷ f) new.history) two on.0))
            is,
        on.1,
      )

  act_on : (posts : List (Post S)) (result : Outcome) (l : Letter S) (old new : Acting S) → Handles result (Act l) old new → AllKnown (posts ++ Act l ∷ []) old.rows
      → HandlesOne (posts ++ Act l ∷ []) old.history (Act l) new.history × AllKnown (posts ++ Act l ∷ []) new.rows
  act_on posts Applied l old new h all =
      let a = h.does.acts in
      let now = posts ++ Act l ∷ [] in
      let brought = all_brought now l (length posts) (act_of_letter l) old.rows a.rows (get_last posts (Act l)) refl a.brought all in
      let on = accepted_on now (record { history = old.history; rows = a.rows }) (record { history = new.history; rows = h.does.ends }) (entry_of (conn_of_letter l) (act_of_letter l) a.word) a.drawn a.accepted brought in (
        of.HandlesOne.entered l a.word (false_from_ne_true (is_dropped old.history (conn_of_letter l) (act_of_letter l)) (λ is. let clash : Applied ≡ Dropped = h.dropped is in absurd (cc))) on.0,
        unmarked now h.does.ends new.rows h.does.unmarked on.1,
      )
  act_on posts Dropped l old new h all =
      let a = h.does.acts in
      let now = posts ++ Act l ∷ [] in (
        subst (λ k. HandlesOne now old.history (Act l) k) (sym a.0.0) (of.HandlesOne.dropped l a.1),
        unmarked now h.does.ends new.rows h.does.unmarked (subst (λ rows. AllKnown now rows) (sym a.0.1) all),
      )
  act_on posts NoMemory l old new h all =
      let now = posts ++ Act l ∷ [] in
      let on = lost_on now l h.does.acts (false_from_ne_true (is_dropped old.history (conn_of_letter l) (act_of_letter l)) (λ is. let clash : NoMemory ≡ Dropped = h.dropped is in absurd (cc))) all in
      (on.0, unmarked now h.does.ends new.rows h.does.unmarked on.1)

  -- rows ascend where they do later
  ascended : (lost : List ℕ) (olds news : List (Row S)) → EachMoved lost olds news → Ascending news → Ascending olds
  ascended lost olds news m up i j r s less e f =
      let first = beside olds news i r m.0 e in
      let second = beside olds news j s m.0 f in
      let later : (get_or news i r).conn < (get_or news j s).conn = up i j (get_or news i r) (get_or news j s) less first second in
      let a : (get_or news i r).conn ≡ r.conn = (m.1 i r (get_or news i r) e first).conn in
      let b : (get_or news j s).conn ≡ s.conn = (m.1 j s (get_or news j s) f second).conn in
      omega arith

  -- what a stop makes of it, row by row: each session that it closed has a row before this place
  abbrev IsBelow : ℕ → ℕ → List (Row S) → Type 0
  IsBelow next i rows = (next ≡ 0) ⊎ ((j : ℕ) × (r : Row S) × (j < i) × (slice_get rows j ≡ Some r) × (next ≡ r.conn + 1))

  record ClosedSo (posts : List (Post S)) (old : Standing S) (i : ℕ) (new : Standing S) : Type 0 where
    pub next : ℕ
    pub on : ClosesOn posts old.history next new.history
    pub known : AllKnown posts new.rows
    pub below : IsBelow next i new.rows

  -- those before a row are of lower connections
  is_next : (next i : ℕ) (rows : List (Row S)) (r : Row S) → IsBelow next i rows → Ascending rows → slice_get rows i ≡ Some r → next ≤ r.conn
  is_next next i rows r (inl none) up at = omega (arith, none)
  is_next next i rows r (inr b) up at = let less : b.1.conn < r.conn = up b.0 i b.1 r b.2 b.3 at in let is = b.4 in omega (arith, less, is)

  -- the row at this place was closed
  here_below : (lost : List ℕ) (i : ℕ) (olds news : List (Row S)) (r : Row S) → EachMoved lost olds news → slice_get olds i ≡ Some r → IsBelow (r.conn + 1) (suc i) news
  here_below lost i olds news r m at =
      let there = beside olds news i r m.0 at in
      inr (i, get_or news i r, omega arith, there, ap (λ n. n + 1) (sym (m.1 i r (get_or news i r) at there).conn))

  later_below : (next i : ℕ) (rows : List (Row S)) → IsBelow next i rows → IsBelow next (suc i) rows
  later_below next i rows (inl none) = inl none
  later_below next i rows (inr b) = inr (b.0, b.1, (let less = b.2 in omega (arith, less)), b.3, b.4)

  one_closed : (posts : List (Post S)) (from : Standing S) {i : ℕ} {old new : Standing S} {words lost : List ℕ} → ClosedSo posts from i old → ClosesOne i old words lost new → ClosedSo posts from (suc i) new
  one_closed posts from {i = i} {old = old} so (closing.ClosesOne.passed r at dead) = record { next = so.next; on = so.on; known = so.known; below = later_below so.next i old.rows so.below }
  one_closed posts from {i = i} {old = old} {new = new} so (closing.ClosesOne.closed r word drawn at is accepted) =
      let on = accepted_on posts old new (entry.Closed r.conn word) drawn accepted so.known in
      let up = ascended [] old.rows accepted.mid (moved_went old.rows accepted.mid accepted.went) accepted.sound.ascending in
      record {
        next = r.conn + 1;
        on = of.ClosesOn.closed r.conn word so.on (is_next so.next i old.rows r so.below up at) is on.0;
        known = on.1;
        below = here_below [] i old.rows new.rows r (moved_went old.rows new.rows (accepted_went accepted)) at;
      }
  one_closed posts from {i = i} {old = old} {new = new} so (closing.ClosesOne.refused r gone word drawn e marked at is cut marks accepted) =
      let on = accepted_on posts (record { history = old.history; rows = marked }) new e drawn accepted (all_marked posts old.rows marked r.conn marks so.known) in
      let moved = moved_marked r.conn old.rows marked marks in
      let up = ascended (r.conn ∷ []) old.rows marked moved (ascended [] marked accepted.mid (moved_went marked accepted.mid accepted.went) accepted.sound.ascending) in
      let least = is_next so.next i old.rows r so.below up at in
      record {
        next = r.conn + 1;
        on = ⊎_elim
            (λ (one : e ≡ entry.Cut r.conn (Some word)). of.ClosesOn.cut r.conn (Some word) so.on least is (subst (λ f. CutsOn posts (old.history ▷ f) new.history) one on.0))
            (λ (two : e ≡ entry.Cut r.conn None). of.ClosesOn.cut r.conn None so.on least is (subst (λ f. CutsOn posts (old.history ▷ f) new.history) two on.0))
            cut;
        known = on.1;
        below = here_below ((r.conn ∷ []) ++ []) i old.rows new.rows r (moved_on (r.conn ∷ []) [] old.rows marked new.rows moved (moved_went marked new.rows (accepted_went accepted))) at;
      }

  all_closed : (posts : List (Post S)) {old : Standing S} {i : ℕ} {new : Standing S} {words lost : List ℕ} → Closes old i words lost new → AllKnown posts old.rows → ClosedSo posts old i new
  all_closed posts closing.Closes.first all = record { next = 0; on = of.ClosesOn.none; known = all; below = inl refl }
  all_closed posts {old = old} (closing.Closes.one_more so_far one) all = one_closed posts old (all_closed posts so_far all) one

  -- of a run

  all_swept : (posts : List (Post S)) (old new : Acting S) → Sweeps old new → AllKnown posts old.rows → AllKnown posts new.rows
  all_swept posts old new swept all c o e = by_live (live old.history c) refl
    where
      by_live : (b : Bool) → live old.history c ≡ b → IsKnown posts c o
      by_live true is = all c o (sym (swept.lives c is) ∙ e)
      by_live false is = absurd (none-some o (sym (swept.others c is) ∙ e))

  runs_on : {a b : Acting S} {came : List (Post S)} → Runs a came b → AllKnown [] a.rows → HandlesAll a.history came b.history × AllKnown came b.rows
  runs_on running.Runs.none all = (of.HandlesAll.none, all)
  runs_on {a = a} (running.Runs.one_more {came} {b} {c} {d} {result} l runs swept handles) all =
      let before = runs_on runs all in
      let on = act_on came result l c d handles (all_more came (Act l) c.rows (all_swept came b c swept before.1)) in
      (of.HandlesAll.one_more (Act l) before.0 (subst (λ h. HandlesOne (came ++ Act l ∷ []) h (Act l) d.history) swept.history on.0), on.1)

  none_known : (rows : List (Row S)) → rows ≡ [] → AllKnown [] rows
  none_known rows e c o is = absurd (none-some o (ap (λ l. outbox_of l c) (sym e) ∙ is))

  -- a run that begins without sessions handles what comes
  pub ran_on : {a z : Acting S} {came : List (Post S)} → Ran a came z → a.rows ≡ [] → HandlesAll a.history came z.history
  ran_on {a = a} (running.Ran.left {came} {b} {c} runs swept) none = subst (λ h. HandlesAll a.history came h) (sym swept.history) (runs_on runs (none_known a.rows none)).0
  ran_on {a = a} (running.Ran.stopped {came} {b} {c} {d} {result} halt runs swept handles) none =
      let before = runs_on runs (none_known a.rows none) in
      let now = came ++ Stop halt ∷ [] in
      let closed = all_closed now handles.does.closes (all_more came (Stop halt) c.rows (all_swept came b c swept before.1)) in
      of.HandlesAll.one_more (Stop halt) before.0 (of.HandlesOne.stopped halt (subst (λ h. ClosesOn now h closed.next d.history) swept.history closed.on))
