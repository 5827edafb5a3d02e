-- The words of a history's entries are of those that the actor's source gave.
use Rattle.std.proofs.Common.{◌≡◌, ◌⊎◌, ℕ, Bool, true, false, List, [], ◌∷◌, ◌++◌, None, Some, cond, refl, sym, ap, ◌∙◌, subst, ⊎_elim, append_assoc, append-nil}
use Rattle.realm.specs.History.{History, ◌▷◌}
use Rattle.realm.specs.Words.{says_with_word}
use Rattle.realm.specs.declared.entry.Entry.{Entry}
use Rattle.realm.specs.declared.entry.Entry.TheVariants as entry
use Rattle.realm_actor.specs.ActorView.{Acting, Working, standing_in, working_in}
use Rattle.realm_actor.specs.Cuts.{Accepted, Cuts, IsCutOf}
use Rattle.realm_actor.specs.Cuts as cutting
use Rattle.realm_actor.specs.Handle.{Applies, Loses, draws, entry_of}
use Rattle.realm_actor.specs.Handle as handling
use Rattle.realm_actor.specs.Run.{Handles, Ran, Runs}
use Rattle.realm_actor.specs.Run as running
use Rattle.realm_actor.specs.Settle.{Sweeps}
use Rattle.realm_actor.specs.Stop.{Closes, ClosesOne}
use Rattle.realm_actor.specs.Stop as closing
use Rattle.realm_actor.specs.Tables.{Standing}
use Rattle.realm_actor.specs.Words.{Words, ◌⊕◌}
use Rattle.realm_actor.specs.declared.outcome.Outcome.{Outcome}
use Rattle.realm_actor.specs.declared.outcome.Outcome.TheVariants.{Applied, Dropped, NoMemory}
use Rattle.realm_inbox.specs.Seats.{act_of_letter, conn_of_letter}
use Rattle.realm_inbox.specs.declared.act.Act as the
use Rattle.realm_inbox.specs.declared.act.Act.TheVariants.{Gone, Join, Ping, Said, Spoilt}
use Rattle.realm_inbox.specs.declared.letter.Letter.{Letter}
use Rattle.realm_inbox.specs.declared.letter.Post.TheVariants.{Act, Stop}
use Rattle.threaded_server.specs.EntryWords.{IsWithin, words_of}
use Rattle.threaded_server.specs.EntryWords as of

-- more words are given, of which none is an entry's
within_more : {xs ys : List ℕ} → IsWithin xs ys → (more : List ℕ) → IsWithin xs (ys ++ more)
within_more {xs} {ys} w [] = subst (λ l. IsWithin xs l) (sym (append-nil ys)) w
within_more {xs} {ys} w (y ∷ more) = subst (λ l. IsWithin xs l) (append_assoc ys (y ∷ []) more) (within_more (of.IsWithin.passed y w) more)

-- an entry that draws none
same_within : {xs ys : List ℕ} → IsWithin xs ys → IsWithin (xs ++ []) (ys ++ [])
same_within {xs} {ys} w = subst (λ l. IsWithin l (ys ++ [])) (sym (append-nil xs)) (within_more w [])

cut_within : (h : History) (e : Entry) (c word : ℕ) {given : List ℕ} → IsCutOf c word e → IsWithin (words_of h) given → IsWithin (words_of (h ▷ e)) (given ++ word ∷ [])
cut_within h e c word {given = given} is w = ⊎_elim
    (λ (one : e ≡ entry.Cut c (Some word)). subst (λ x. IsWithin (words_of (h ▷ x)) (given ++ word ∷ [])) (sym one) (of.IsWithin.taken word w))
    (λ (two : e ≡ entry.Cut c None). subst (λ x. IsWithin (words_of (h ▷ x)) (given ++ word ∷ [])) (sym two) (subst (λ l. IsWithin l (given ++ word ∷ [])) (sym (append-nil (words_of h))) (of.IsWithin.passed word w)))
    is

-- the word of an act stands before those behind it, where it draws one
word_first : (b : Bool) (given : List ℕ) (word : ℕ) (drawn : List ℕ) → (given ++ cond b (word ∷ []) []) ++ drawn ≡ given ++ cond b (word ∷ drawn) drawn
word_first true given word drawn = append_assoc given (word ∷ []) drawn
word_first false given word drawn = ap (λ l. l ++ drawn) (append-nil given)

said_within : (b : Bool) (word : ℕ) {xs given : List ℕ} → IsWithin xs given → IsWithin (xs ++ cond b (cond b word 0 ∷ []) []) (given ++ cond b (word ∷ []) [])
said_within true word w = of.IsWithin.taken word w
said_within false word w = same_within w

-- the source is as it was, but for the words that it gave meanwhile; and the words of the entries that entered meanwhile are of these
pub record Drew (h k : History) (before after : Words) : Type 0 where
  pub kind : after.is_counting ≡ before.is_counting
  pub within : IsWithin (words_of h) before.given → IsWithin (words_of k) after.given

drew_none : {h k : History} {before after : Words} → k ≡ h → after ≡ before → Drew h k before after
drew_none {h} {k} {before} {after} same stays = record {
  kind = ap (λ (w : Words). w.is_counting) stays;
  within = λ w. subst (λ l. IsWithin (words_of l) after.given) (sym same) (subst (λ (s : Words). IsWithin (words_of h) s.given) (sym stays) w);
}

drew_then : {h k l : History} {first second third : Words} → Drew h k first second → Drew k l second third → Drew h l first third
drew_then a b = record { kind = b.kind ∙ a.kind; within = λ w. b.within (a.within w) }

drew_more : {h k : History} {before after : Words} (more : List ℕ) → after ≡ (before ⊕ more) → (IsWithin (words_of h) before.given → IsWithin (words_of k) (before.given ++ more)) → Drew h k before after
drew_more {k = k} more is on = record { kind = ap (λ (w : Words). w.is_counting) is; within = λ w. subst (λ (s : Words). IsWithin (words_of k) s.given) (sym is) (on w) }

module _ {S : Type 0} where
  enters_within : (act : the.Act S) (h : History) (c word : ℕ) {given : List ℕ} → IsWithin (words_of h) given → IsWithin (words_of (h ▷ entry_of c act word)) (given ++ cond (draws act) (word ∷ []) [])
  enters_within (Join joining) h c word w = of.IsWithin.taken word w
  enters_within (Said said) h c word w = said_within (says_with_word said) word w
  enters_within (Ping payload) h c word w = same_within w
  enters_within Spoilt h c word w = of.IsWithin.taken word w
  enters_within Gone h c word w = of.IsWithin.taken word w

  cuts_within : {old new : Standing S} {drawn : List ℕ} → Cuts old drawn new → {given : List ℕ} → IsWithin (words_of old.history) given → IsWithin (words_of new.history) (given ++ drawn)
  cuts_within cutting.Cuts.none w = within_more w []
  cuts_within {new = new} (cutting.Cuts.one_more {mid = mid} {words = words} {e = e} c word so_far sound least is entered went) {given = given} w =
      subst (λ h. IsWithin (words_of h) (given ++ (words ++ word ∷ []))) (sym entered)
      (subst (λ l. IsWithin (words_of (mid.history ▷ e)) l) (append_assoc given words (word ∷ [])) (cut_within mid.history e c word is (cuts_within so_far w)))

  accepted_within : (old new : Standing S) (e : Entry) (drawn : List ℕ) → Accepted old e drawn new → {given : List ℕ} → IsWithin (words_of (old.history ▷ e)) given → IsWithin (words_of new.history) (given ++ drawn)
  accepted_within old new e drawn a w = cuts_within a.cuts w

  applies_drew : (c : ℕ) (act : the.Act S) (old new : Working S) → Applies c act old new → Drew old.history new.history old.words new.words
  applies_drew c act old new a = drew_more (cond (draws act) (a.word ∷ a.drawn) a.drawn) a.words
      (λ w. subst (λ l. IsWithin (words_of new.history) l) (word_first (draws act) old.words.given a.word a.drawn)
      (accepted_within (record { history = old.history; rows = a.rows }) (standing_in new) (entry_of c act a.word) a.drawn a.accepted (enters_within act old.history c a.word w)))

  loses_drew : (c : ℕ) (act : the.Act S) {old new : Working S} → Loses c act old new → Drew old.history new.history old.words new.words
  loses_drew c act (handling.Loses.not_live lost dead told few) = drew_more lost refl (λ w. within_more w lost)
  loses_drew c act (handling.Loses.nothing_drawn dead) = drew_none refl refl
  loses_drew c act {old = old} {new = new} (handling.Loses.cut lost word drawn e marked few is marks accepted words) =
      drew_more (lost ++ word ∷ drawn) (words ∙ (λ i. record { is_counting = old.words.is_counting; given = append_assoc old.words.given lost (word ∷ drawn) i }))
      (λ w. subst (λ l. IsWithin (words_of new.history) l) (append_assoc (old.words.given ++ lost) (word ∷ []) drawn ∙ append_assoc old.words.given lost (word ∷ drawn))
      (accepted_within (record { history = old.history; rows = marked }) (standing_in new) e drawn accepted (cut_within old.history e c word is (within_more w lost))))

  act_drew : (result : Outcome) (l : Letter S) (old new : Acting S) → Handles result (Act l) old new → Drew old.history new.history old.words new.words
  act_drew Applied l old new h = applies_drew (conn_of_letter l) (act_of_letter l) (working_in old) (record (working_in new) { rows = h.does.ends }) h.does.acts
  act_drew Dropped l old new h = drew_none h.does.acts.0.0 h.does.acts.0.2
  act_drew NoMemory l old new h = loses_drew (conn_of_letter l) (act_of_letter l) h.does.acts

  one_within : {i : ℕ} {old new : Standing S} {words lost : List ℕ} → ClosesOne i old words lost new → {given : List ℕ} → IsWithin (words_of old.history) given → IsWithin (words_of new.history) (given ++ words)
  one_within (closing.ClosesOne.passed r at dead) w = within_more w []
  one_within {old = old} {new = new} (closing.ClosesOne.closed r word drawn at is accepted) {given = given} w =
      subst (λ l. IsWithin (words_of new.history) l) (append_assoc given (word ∷ []) drawn)
      (accepted_within old new (entry.Closed r.conn word) drawn accepted (of.IsWithin.taken word w))
  one_within {old = old} {new = new} (closing.ClosesOne.refused r gone word drawn e marked at is cut marks accepted) {given = given} w =
      subst (λ l. IsWithin (words_of new.history) l) (append_assoc (given ++ gone ∷ []) (word ∷ []) drawn ∙ append_assoc given (gone ∷ []) (word ∷ drawn))
      (accepted_within (record { history = old.history; rows = marked }) new e drawn accepted (cut_within old.history e r.conn word cut (of.IsWithin.passed gone w)))

  all_within : {old : Standing S} {i : ℕ} {new : Standing S} {words lost : List ℕ} → Closes old i words lost new → {given : List ℕ} → IsWithin (words_of old.history) given → IsWithin (words_of new.history) (given ++ words)
  all_within closing.Closes.first w = within_more w []
  all_within {new = new} (closing.Closes.one_more {words = words} {more = more} so_far one) {given = given} w =
      subst (λ l. IsWithin (words_of new.history) l) (append_assoc given words more) (one_within one (all_within so_far w))

  swept_drew : (old new : Acting S) → Sweeps old new → Drew old.history new.history old.words new.words
  swept_drew old new swept = drew_none swept.history swept.words

  runs_drew : {a b : Acting S} {came : List _} → Runs a came b → Drew a.history b.history a.words b.words
  runs_drew running.Runs.none = drew_none refl refl
  runs_drew (running.Runs.one_more {came} {b} {c} {d} {result} l runs swept handles) = drew_then (runs_drew runs) (drew_then (swept_drew b c swept) (act_drew result l c d handles))

  -- of a whole run
  pub ran_drew : {a z : Acting S} {came : List _} → Ran a came z → Drew a.history z.history a.words z.words
  ran_drew {z = z} (running.Ran.left {came} {b} {c} runs swept) = drew_then (runs_drew runs) (swept_drew b z swept)
  ran_drew {z = z} (running.Ran.stopped {came} {b} {c} {d} {result} halt runs swept handles) =
      drew_then (runs_drew runs) (drew_then (swept_drew b c swept) (drew_more handles.does.words handles.does.given (λ w. all_within handles.does.closes w)))
