-- Lines of an input that are published one after another.
use Rattle.std.proofs.Common.{◌≡◌, ℕ, Bool, ◌+◌, ◌-◌, ◌<◌, ◌∙◌, false, eqb, List, [], ◌∷◌, ◌++◌, length, length-drop, take, drop, refl, sym, ap, subst, append_assoc, append-nil, add-one, inl, inr, arith}
use Rattle.std.proofs.lemmas.List.Folds.{list_any-append}
use Rattle.std.proofs.lemmas.Bool.{or_from}
use Rattle.std.proofs.lemmas.List.{take_all}
use Rattle.client_session.specs.Hearing.{Ear, HearsNoneYet, Terms}
use Rattle.client_commands.specs.Lines.{ended, has_line_feed}
use Rattle.client_commands.specs.Pacing.{AllAnswered, IsPaced}
use Rattle.client_commands.specs.Published.{IsPublishedOf, PublishesInput}
use Rattle.client_commands.specs.declared.command.PublishCommand.{PublishCommand}
use Rattle.client_commands.proofs.PacingLemmas.{paced-attending, paced-none}

clean-append : (xs ys : List ℕ) → has_line_feed xs ≡ false → has_line_feed ys ≡ false → has_line_feed (xs ++ ys) ≡ false
clean-append xs ys e f = list_any-append (λ c. eqb c 10) xs ys ∙ or_from (has_line_feed xs) (has_line_feed ys) e f

joined : (input done octets : List ℕ) → ((input ++ done) ++ octets) ++ 10 ∷ [] ≡ input ++ (done ++ (octets ++ 10 ∷ []))
joined input done octets = append_assoc (input ++ done) octets (10 ∷ []) ∙ append_assoc input done (octets ++ 10 ∷ [])

-- of a piece this is done, and this is left
pub piece-step : (piece done left octets rest after : List ℕ) → piece ≡ done ++ left → left ≡ octets ++ 10 ∷ rest → after ≡ rest → piece ≡ (done ++ (octets ++ 10 ∷ [])) ++ after
piece-step piece done left octets rest after piece_is left_is after_is =
    piece_is ∙ ap (λ xs. done ++ xs) left_is ∙ ap (λ xs. done ++ xs) (sym (append_assoc octets (10 ∷ []) rest)) ∙ sym (append_assoc done (octets ++ 10 ∷ []) rest) ∙ ap (λ xs. (done ++ (octets ++ 10 ∷ [])) ++ xs) (sym after_is)

-- what stands behind a place is the rest
pub rest-after : (octets : List ℕ) (i : ℕ) → i < length octets → take (length octets - (i + 1)) (drop (i + 1) octets) ≡ drop (i + 1) octets
rest-after octets i small = take_all (length octets - (i + 1)) (drop (i + 1) octets) (omega (arith, length-drop {A = ℕ}))

-- what is left of a piece stands behind what is done
pub cut-done : (input piece done left : List ℕ) → piece ≡ done ++ left → input ++ piece ≡ (input ++ done) ++ left
cut-done input piece done left is = ap (λ xs. input ++ xs) is ∙ sym (append_assoc input done left)

-- what was published stays so where the terms are the same
pub paced-as : (command : PublishCommand) (t u : Terms) (before now : Ear) (lines : List (List ℕ)) (answered : ℕ) → u ≡ t → IsPaced command u before now lines answered → IsPaced command t before now lines answered
paced-as command t u before now lines answered e p = subst (λ x. IsPaced command x before now lines answered) e p

-- all is answered, however it is counted
pub all-counted : (acknowledge : Bool) (answered count said : ℕ) → AllAnswered acknowledge count answered → count ≡ said → AllAnswered acknowledge said answered
all-counted acknowledge answered count said all counted asked = all asked ∙ counted

module _ (command : PublishCommand) (t : Terms) (before : Ear) where
  -- nothing is read
  pub published-none : (now : Ear) (rest : List ℕ) (count answered : ℕ) → rest ≡ [] → count ≡ 0 → answered ≡ 0 → now ≡ before → IsPublishedOf command t before now [] rest count answered
  published-none now rest count answered rest_is count_is answered_is same = record {
    lines = [];
    split = sym rest_is;
    lines_clean = tt;
    rest_clean = rw rest_is refl;
    counted = count_is;
    publishes = paced-none command t before now answered same answered_is;
  }

  -- octets of the line that isn't ended yet
  pub published-rest : (now : Ear) (input rest octets : List ℕ) (count answered : ℕ) → has_line_feed octets ≡ false → IsPublishedOf command t before now input rest count answered
      → IsPublishedOf command t before now (input ++ octets) (rest ++ octets) count answered
  published-rest now input rest octets count answered clean p = record {
    lines = p.lines;
    split = ap (λ xs. xs ++ octets) p.split ∙ append_assoc (ended p.lines) rest octets;
    lines_clean = p.lines_clean;
    rest_clean = clean-append rest octets p.rest_clean clean;
    counted = p.counted;
    publishes = p.publishes;
  }

  -- the broker is attended to
  pub published-attending : (u : Terms) (mid now : Ear) (input rest : List ℕ) (count answered : ℕ) → u ≡ t → HearsNoneYet u mid now
      → IsPublishedOf command t before mid input rest count answered → IsPublishedOf command t before now input rest count answered
  published-attending u mid now input rest count answered e attends p = record {
    lines = p.lines;
    split = p.split;
    lines_clean = p.lines_clean;
    rest_clean = p.rest_clean;
    counted = p.counted;
    publishes = paced-attending command t before mid now p.lines answered (subst (λ x. HearsNoneYet x mid now) e attends) p.publishes;
  }

  -- acknowledgements are heard
  pub published-answers : (u : Terms) (mid now : Ear) (input rest rests : List ℕ) (count counts answered answers : ℕ) → u ≡ t → rests ≡ rest → counts ≡ count
      → ((b : Ear) (ls : List (List ℕ)) → length ls ≡ count → IsPaced command u b mid ls answered → IsPaced command u b now ls answers)
      → IsPublishedOf command t before mid input rest count answered → IsPublishedOf command t before now input rests counts answers
  published-answers u mid now input rest rests count counts answered answers e rest_is count_is hears p = record {
    lines = p.lines;
    split = p.split ∙ ap (λ r. ended p.lines ++ r) (sym rest_is);
    lines_clean = p.lines_clean;
    rest_clean = ap (λ r. has_line_feed r) rest_is ∙ p.rest_clean;
    counted = count_is ∙ p.counted;
    publishes = paced-as command t u before now p.lines answers e (hears before p.lines (sym p.counted) (paced-as command u t before mid p.lines answered (sym e) p.publishes));
  }

  -- LF ends the line
  pub published-line : (u : Terms) (mid now : Ear) (input rest left : List ℕ) (count more answered answers : ℕ) → u ≡ t → IsPublishedOf command t before mid input rest count answered
      → ((b : Ear) (ls : List (List ℕ)) → length ls ≡ count → IsPaced command u b mid ls answered → IsPaced command u b now (rest ∷ ls) answers) → left ≡ [] → more ≡ count + 1
      → IsPublishedOf command t before now (input ++ 10 ∷ []) left more answers
  published-line u mid now input rest left count more answered answers e p says left_is more_is = record {
    lines = rest ∷ p.lines;
    split = ap (λ xs. xs ++ 10 ∷ []) p.split ∙ append_assoc (ended p.lines) rest (10 ∷ []) ∙ sym (append-nil (ended p.lines ++ (rest ++ 10 ∷ []))) ∙ ap (λ r. (ended p.lines ++ (rest ++ 10 ∷ [])) ++ r) (sym left_is);
    lines_clean = (p.rest_clean, p.lines_clean);
    rest_clean = rw left_is refl;
    counted = more_is ∙ ap (λ n. n + 1) p.counted ∙ add-one (length p.lines);
    publishes = paced-as command t u before now (rest ∷ p.lines) answers e (says before p.lines (sym p.counted) (paced-as command u t before mid p.lines answered (sym e) p.publishes));
  }

  -- the input ends behind LF, or has no line
  pub published-all : (now : Ear) (given_before given input rest : List ℕ) (count answered : ℕ) → given ≡ given_before ++ input → rest ≡ [] → AllAnswered command.wishes.acknowledge count answered
      → IsPublishedOf command t before now input rest count answered → PublishesInput command t before now given_before given
  published-all now given_before given input rest count answered read none all p = record {
    input = input;
    read = read;
    lines = p.lines;
    are = record { clean = p.lines_clean; split = inl (p.split ∙ ap (λ r. ended p.lines ++ r) none ∙ append-nil (ended p.lines)) };
    answered = answered;
    publishes = p.publishes;
    all = all-counted command.wishes.acknowledge answered count (length p.lines) all p.counted;
  }

  -- or the last line has none
  pub published-last : (mid now : Ear) (given_before given input rest : List ℕ) (count more answered answers : ℕ) → given ≡ given_before ++ input → 0 < length rest → more ≡ count + 1
      → AllAnswered command.wishes.acknowledge more answers → IsPublishedOf command t before mid input rest count answered
      → ((ls : List (List ℕ)) → length ls ≡ count → IsPaced command t before mid ls answered → IsPaced command t before now (rest ∷ ls) answers)
      → PublishesInput command t before now given_before given
  published-last mid now given_before given input rest count more answered answers read some more_is all p says = record {
    input = input;
    read = read;
    lines = rest ∷ p.lines;
    are = record { clean = (p.rest_clean, p.lines_clean); split = inr (p.split, some) };
    answered = answers;
    publishes = says p.lines (sym p.counted) p.publishes;
    all = all-counted command.wishes.acknowledge answers more (length (rest ∷ p.lines)) all (more_is ∙ ap (λ n. n + 1) p.counted ∙ add-one (length p.lines));
  }

  -- octets that LF ends behind what is kept: they are published as a line
  pub published-step : (u : Terms) (mid now : Ear) (input done rest octets line left : List ℕ) (count more answered answers : ℕ) → u ≡ t → has_line_feed octets ≡ false → line ≡ rest ++ octets
      → IsPublishedOf command t before mid (input ++ done) rest count answered
      → ((b : Ear) (ls : List (List ℕ)) → length ls ≡ count → IsPaced command u b mid ls answered → IsPaced command u b now (line ∷ ls) answers) → left ≡ [] → more ≡ count + 1
      → IsPublishedOf command t before now (input ++ (done ++ (octets ++ 10 ∷ []))) left more answers
  published-step u mid now input done rest octets line left count more answered answers e clean line_is p says left_is more_is =
      let kept = published-rest mid (input ++ done) rest octets count answered clean p in
      let whole = published-line u mid now ((input ++ done) ++ octets) (rest ++ octets) left count more answered answers e kept
      (λ b ls counted q. subst (λ xs. IsPaced command u b now (xs ∷ ls) answers) line_is (says b ls counted q)) left_is more_is in
      subst (λ xs. IsPublishedOf command t before now xs left more answers) (joined input done octets) whole

  -- what no LF ends is kept
  pub published-kept : (now : Ear) (input done piece rest octets kept : List ℕ) (count answered : ℕ) → has_line_feed octets ≡ false → kept ≡ rest ++ octets → piece ≡ done ++ octets
      → IsPublishedOf command t before now (input ++ done) rest count answered → IsPublishedOf command t before now (input ++ piece) kept count answered
  published-kept now input done piece rest octets kept count answered clean kept_is piece_is p =
      subst (λ xs. IsPublishedOf command t before now xs kept count answered) (append_assoc input done octets ∙ ap (λ xs. input ++ xs) (sym piece_is))
      (subst (λ r. IsPublishedOf command t before now ((input ++ done) ++ octets) r count answered) (sym kept_is) (published-rest now (input ++ done) rest octets count answered clean p))

  -- a piece more, under terms that stay
  pub published-more : (u : Terms) (mid now : Ear) (input piece rest kept : List ℕ) (count more answered answers : ℕ) → u ≡ t
      → ((b : Ear) (xs : List ℕ) → IsPublishedOf command u b mid xs rest count answered → IsPublishedOf command u b now (xs ++ piece) kept more answers)
      → IsPublishedOf command t before mid input rest count answered → IsPublishedOf command t before now (input ++ piece) kept more answers
  published-more u mid now input piece rest kept count more answered answers e adds p =
      subst (λ x. IsPublishedOf command x before now (input ++ piece) kept more answers) e
      (adds before input (subst (λ x. IsPublishedOf command x before mid input rest count answered) (sym e) p))

  -- and the end
  pub published-end : (u : Terms) (mid now : Ear) (given_before given input rest : List ℕ) (count answered : ℕ) → u ≡ t → given ≡ given_before ++ input
      → ((ys zs : List ℕ) (b : Ear) (xs : List ℕ) → IsPublishedOf command u b mid xs rest count answered → zs ≡ ys ++ xs → PublishesInput command u b now ys zs)
      → IsPublishedOf command t before mid input rest count answered → PublishesInput command t before now given_before given
  published-end u mid now given_before given input rest count answered e read ends p =
      subst (λ x. PublishesInput command x before now given_before given) e
      (ends given_before given before input (subst (λ x. IsPublishedOf command x before mid input rest count answered) (sym e) p) read)
