-- The chronicle of each row's outbox, where one is picked, stays the actor's.
use Rattle.std.proofs.Common.{◌≡◌, ◌<◌, ℕ, Bool, List, length, get_or, Ok, Err, refl, sym, ap, ◌∙◌, subst, arith}
use Rattle.std.specs.Prelude.{Option, Some, None, slice_get, option_map, filter, IfOk, IfErr}
use Rattle.std.specs.List.{insert}
use Rattle.std.specs.declared.result.Result.{Result}
use Rattle.outbox_queue.specs.Ends.{Taking}
use Rattle.outbox_queue.specs.Tied.{Kept}
use Rattle.wamp_messages.specs.declared.item.Item.{Item}
use Rattle.realm.specs.History.{History}
use Rattle.atomic_table.specs.Seated.{TableId}
use Rattle.realm_inbox.specs.declared.letter.Post.{Post}
use Rattle.realm_inbox.specs.declared.letter.Post.TheVariants.{Act, Stop}
use Rattle.realm_inbox.specs.Seats.{IsHomed}
use Rattle.realm_actor.specs.Run.{IsAt}
use Rattle.realm_actor.specs.declared.row.Row.{Row}
use Rattle.realm_actor.specs.OutboxHistory.{Box, IsHome}
use Rattle.realm_actor.specs.Rows.{box_in, BoxGoes, RowGoes, EachGoes, RowHome, EachHome}
use Rattle.realm_actor.specs.Tables.{BoxEnds, RowEnds, EachEnds, RowMarked, EachMarked}
use Rattle.realm_actor.specs.Handle.{Unmarked, EachUnmarked}
use Rattle.realm_actor.specs.Settle.{EmptiesOne}
use Rattle.realm_actor.proofs.RowPlaces.{read, within, each_set, insert_all}
use Rattle.realm_actor.proofs.RowRemoval.{source}

-- the outbox, if it is held, is of the chronicle, if one is picked
abbrev BoxHome : TableId → Option Box → Type 0
BoxHome own a = (o : Box) → a ≡ Some o → IsHome own o

home_by : (own : TableId) (o p : Box) → p.chronicle ≡ o.chronicle → BoxHome own (Some o) → BoxHome own (Some p)
home_by own o p same home q is picked told = let e : p ≡ q = cc in home o refl picked (sym same ∙ ap (λ b. b.chronicle) e ∙ told)

box_goes : (own : TableId) (a b : Option Box) → BoxGoes a b → BoxHome own a → BoxHome own b
box_goes own None None goes home q is = absurd (cc is)
box_goes own None (Some p) goes home q is = absurd goes
box_goes own (Some o) None goes home q is = absurd goes
box_goes own (Some o) (Some p) goes home q is = home_by own o p goes.chronicle home q is

box_ends : (own : TableId) (shut : Bool) (a b : Option Box) → BoxEnds shut a b → BoxHome own a → BoxHome own b
box_ends own shut None None ends home q is = absurd (cc is)
box_ends own shut None (Some p) ends home q is = absurd ends
box_ends own shut (Some o) None ends home q is = absurd ends
box_ends own shut (Some o) (Some p) ends home q is = home_by own o p (ap (λ b. b.chronicle) ends) home q is

module _ {S : Type 0} (own : TableId) where
  -- of each row, by what became of it
  each_by : (R : Row S → Row S → Type 0) → ((o p : Row S) → R o p → RowHome own o → RowHome own p) → (olds news : List (Row S)) → length news ≡ length olds
      → ((k : ℕ) (o p : Row S) → slice_get olds k ≡ Some o → slice_get news k ≡ Some p → R o p) → EachHome own olds → EachHome own news
  each_by R step olds news long each home k r at =
      let inside = within news k r at in let below : k < length olds = omega (arith, inside, long) in let o = get_or olds k r in
      step o r (each k o r (read olds k r below) at) (home k o (read olds k r below))

  pub home_goes : (olds news : List (Row S)) → EachGoes olds news → EachHome own olds → EachHome own news
  home_goes olds news goes = each_by (λ o p. RowGoes o p) (λ o p g. box_goes own (box_in o) (box_in p) g.box) olds news goes.0 goes.1

  pub home_ends : (c : ℕ) (is_live : Bool) (olds news : List (Row S)) → EachEnds c is_live olds news → EachHome own olds → EachHome own news
  home_ends c is_live olds news ends = each_by (λ o p. RowEnds c is_live o p) (λ o p e. box_ends own _ (box_in o) (box_in p) e.box) olds news ends.0 ends.1

  pub home_inserted : (rows : List (Row S)) (i : ℕ) (a : Row S) → RowHome own a → EachHome own rows → EachHome own (insert rows i a)
  home_inserted rows i a first home = insert_all (RowHome own) rows i a home first

  same_held : (o p : Row S) → p.held ≡ o.held → RowHome own o → RowHome own p
  same_held o p same home q is = home q (ap (λ h. option_map (λ e. e.outbox) h) (sym same) ∙ is)

  pub home_marked : (c : ℕ) (olds news : List (Row S)) → EachMarked c olds news → EachHome own olds → EachHome own news
  home_marked c olds news marked = each_by (λ o p. RowMarked c o p) (λ o p m. same_held o p m.held) olds news marked.0 marked.1

  pub home_unmarked : (olds news : List (Row S)) → EachUnmarked olds news → EachHome own olds → EachHome own news
  home_unmarked olds news unmarked = each_by (λ o p. Unmarked o p) (λ o p m. same_held o p m.held) olds news unmarked.0 unmarked.1

  pub home_swept : (test : Row S → Bool) (rows : List (Row S)) → EachHome own rows → EachHome own (filter test rows)
  home_swept test rows home k r at = let t = source test rows k r at in home t.0 r t.1

  home_emptied : (c : ℕ) (drain : Taking Item (Kept History)) (rest : List Item) (olds news : List (Row S)) → EmptiesOne c drain rest olds news → EachHome own olds → EachHome own news
  home_emptied c drain rest olds news e home =
      let gone : RowHome own e.new = λ q is. absurd (cc (ap (λ h. option_map (λ x. x.outbox) h) (sym e.emptied.held) ∙ is)) in
      subst (λ l. EachHome own l) (sym e.after) (each_set olds e.place e.new (RowHome own) gone home)

  pub home_settled : {T E : Type 0} (r : Result T E) (c : ℕ) (drain : Taking Item (Kept History)) (rest : T → List Item) (olds news : List (Row S)) (Q : E → Type 0) → IfOk r (λ x. EmptiesOne c drain (rest x) olds news)
      → IfErr r (λ e. (news ≡ olds) × Q e) → EachHome own olds → EachHome own news
  home_settled (Ok x) c drain rest olds news Q ok err home = home_emptied c drain (rest x) olds news ok home
  home_settled (Err e) c drain rest olds news Q ok err home = subst (λ l. EachHome own l) (sym err.0) home

-- of the posts of an inbox
module _ {S : Type 0} where
  -- what a Join of an inbox of this chronicle brings
  pub homed_at : (own : TableId) (home : Option TableId) (p : Post S) → IsAt own home → IsHomed home p → IsHomed (Some own) p
  homed_at own home (Act l) at homed = λ joining picked is brings. ap (λ k. Some k) (at picked (homed joining picked is brings))
  homed_at own home (Stop halt) at homed = tt
