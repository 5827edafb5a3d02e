-- Lines have one transcript.
use Rattle.std.proofs.Common.{◌≡◌, ◌⊎◌, ℕ, List, [], ◌∷◌, ◌++◌, length, Option, None, Some, inl, inr, refl, sym, ap, ◌∙◌, subst, arith}
use Rattle.std.specs.Prelude.{codes}
use Rattle.std.specs.Str.{bytes_eq}
use Rattle.std.proofs.lemmas.List.{length_push, same_from_push}
use Rattle.json_codec.proofs.Lemmas.{one-tree}
use Rattle.session.specs.FromClient.{said_of}
use Rattle.wamp_messages.specs.declared.said.Said.{Said as Spoken}
use Rattle.realm.specs.declared.entry.Entry.{Entry}
use Rattle.realm.specs.History.{◌▷◌}
use Rattle.realm.specs.Sessions.{live}
use Rattle.realm.proofs.Lemmas.{given-once, clash}
use Rattle.replay.specs.Laws.{OneTranscript}
use Rattle.replay.specs.Speech.{Hears, IsSaid}
use Rattle.replay.specs.Transcript.{IsTranscript, nothing, more, Replay, Tells, PrintsFor, after, entry_of, if_ended, printed_all}
use Rattle.replay.specs.declared.speech.Speech.{Speech}
use Rattle.replay.specs.declared.speech.Speech.TheVariants.{Gone, Said, Noise}

one-saying : (text : List ℕ) (a b : Spoken) → IsSaid text a → IsSaid text b → a ≡ b
one-saying text a b x y =
    let same : Some a ≡ Some b = sym x.says ∙ (ap said_of (one-tree text x.tree y.tree x.message.reads y.message.reads) ∙ y.says) in
    cc

-- a text is one thing
one-speech : (text : List ℕ) (a b : Speech) → Hears text a → Hears text b → a ≡ b
one-speech text Gone Gone x y = refl
one-speech text Gone (Said said) x y = clash (bytes_eq text (codes "gone")) x y.0
one-speech text Gone Noise x y = clash (bytes_eq text (codes "gone")) x y.0
one-speech text (Said said) Gone x y = clash (bytes_eq text (codes "gone")) y x.0
one-speech text (Said said) (Said other) x y = ap Said (one-saying text said other x.1 y.1)
one-speech text (Said said) Noise x y = absurd (let none = sym x.1.says ∙ y.1 x.1.tree x.1.message in cc)
one-speech text Noise Gone x y = clash (bytes_eq text (codes "gone")) y x.0
one-speech text Noise (Said said) x y = absurd (let none = sym y.1.says ∙ x.1 y.1.tree y.1.message in cc)
one-speech text Noise Noise x y = refl

prints-once : (r : Replay) (n : ℕ) (speech : Speech) (e : Option Entry) (out other : List ℕ) → PrintsFor r n speech e out → PrintsFor r n speech e other → out ≡ other
prints-once r n speech None out other x y = x ∙ sym y
prints-once r n speech (Some e) out other x y =
    x.is ∙ (ap (λ given. printed_all given ++ if_ended (live (r.history ▷ e) n) n) (given-once r.history e x.given y.given x.exactly y.exactly) ∙ sym y.is)

tells-once : (r : Replay) (octets : List ℕ) (s t : Replay) (out other : List ℕ) → Tells r octets s out → Tells r octets t other → (s ≡ t) × (out ≡ other)
tells-once r octets s t out other x y =
    let both : Some x.line ≡ Some y.line = sym x.is_line ∙ y.is_line in
    let line : x.line ≡ y.line = cc in
    let speech : x.speech ≡ y.speech = one-speech y.line.text x.speech y.speech (subst (λ l. Hears l.text x.speech) line x.hears) y.hears in
    let here = subst (λ l. PrintsFor r l.number x.speech (entry_of r l.number x.speech) out) line x.prints in
    let prints = subst (λ said. PrintsFor r y.line.number said (entry_of r y.line.number said) out) speech here in (
      x.is_next ∙ (ap (λ l. after r l.number x.speech) line ∙ (ap (after r y.line.number) speech ∙ sym y.is_next)),
      prints-once r y.line.number y.speech (entry_of r y.line.number y.speech) out other prints y.prints,
    )

-- the last line of a transcript
record Ends (r : Replay) (lines : List (List ℕ)) (t : Replay) (out : List ℕ) : Type 0 where
  earlier : List (List ℕ)
  line : List ℕ
  split : lines ≡ earlier ++ line ∷ []
  midst : Replay
  before : List ℕ
  added : List ℕ
  printed : out ≡ before ++ added
  begins : IsTranscript r earlier midst before
  ends : Tells midst line t added

-- a transcript has no line, or a last one
ended : (r t : Replay) (lines : List (List ℕ)) (out : List ℕ) → IsTranscript r lines t out → ((lines ≡ []) × (r ≡ t) × (out ≡ [])) ⊎ Ends r lines t out
ended r t lines out nothing = inl (refl, refl, refl)
ended r t lines out (more {s = s} {lines = earlier} {line = line} {out = before} {more_out = added} begins ends) =
    inr (record { earlier = earlier; line = line; split = refl; midst = s; before = before; added = added; printed = refl; begins = begins; ends = ends })

some-line : (lines : List (List ℕ)) (line : List ℕ) → lines ++ line ∷ [] ≡ [] → ⊥
some-line lines line none = omega (arith, length_push lines line, ap length none)

transcript-once : (r s t : Replay) (lines others : List (List ℕ)) (out other : List ℕ) → lines ≡ others → IsTranscript r lines s out → IsTranscript r others t other → (s ≡ t) × (out ≡ other)
transcript-once r s t lines others out other same nothing y =
    elim (ended r t others other y) [
      | inl none ↦ (none.1, sym none.2)
      | inr last ↦ absurd (some-line last.earlier last.line (sym (same ∙ last.split)))
    ]
transcript-once r s t lines others out other same (more {s = midst} {lines = earlier} {line = line} {out = before} {more_out = added} begins ends) y =
    elim (ended r t others other y) [
      | inl none ↦ absurd (some-line earlier line (same ∙ none.0))
      | inr last ↦ let parts = same_from_push earlier last.earlier line last.line (same ∙ last.split) in
          let first = transcript-once r midst last.midst earlier last.earlier before last.before parts.0 begins last.begins in
          let moved = subst (λ m. Tells m last.line t last.added) (sym first.0) last.ends in
          let next = tells-once midst last.line s t added last.added (subst (λ l. Tells midst l s added) parts.1 ends) moved in
          (next.0, ap (λ o. o ++ added) first.1 ∙ (ap (λ o. last.before ++ o) next.1 ∙ sym last.printed))
    ]

pub one-transcript : OneTranscript
one-transcript start s t lines out other x y = transcript-once start s t lines lines out other refl x y
