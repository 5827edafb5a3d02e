-- What the posters of each seat say was posted there, while streams come and go.
use Rattle.std.proofs.Common.{◌≡◌, ◌≢◌, ◌⊎◌, ◌<◌, ◌+◌, ℕ, List, [], Option, None, Some, length, length-set, option_map, replicate, set, slice_get, refl, sym, ap, ◌∙◌, subst, arith, inl, inr}
use Rattle.std.proofs.lemmas.List.{length-replicate}
use Rattle.std.proofs.lemmas.Option.{none-some, same_Some}
use Rattle.threaded_server.proofs.Places.{below, get_other, get_same, get_set, same_or_other, set_there}
use Rattle.threaded_server.specs.Posts.{AllSay, AreIn, Say}

module _ {P A : Type 0} (posted : P → List A) where
  -- the same is said
  pub say_by : (whole count : ℕ) (said now : ℕ → List A) (posters : List (Option P)) → ((i : ℕ) → now i ≡ said i) → Say posted whole count said posters → Say posted whole count now posters
  say_by whole count said now posters same h = record { long = h.long; each = λ i less. let p = h.each i less in (p.0, p.1, p.2 ∙ sym (same i)) }

  -- one seat changes
  pub all_but : (whole count k : ℕ) (said now : ℕ → ℕ → List A) (free left taken held : List (Option (List (Option P)))) → ((j : ℕ) → j ≢ k → slice_get left j ≡ slice_get free j) → ((j : ℕ) → j ≢ k → slice_get held j ≡ slice_get taken j)
      → ((i j : ℕ) → j ≢ k → now i (j + 1) ≡ said i (j + 1))
      → (AreIn posted whole count k said free taken ⊎ AreIn posted whole count k said taken free → AreIn posted whole count k now left held ⊎ AreIn posted whole count k now held left)
      → AllSay posted whole count said free taken → AllSay posted whole count now left held
  all_but whole count k said now free left taken held of_free of_taken of_said here h j less = by_place (same_or_other j k)
    where
      other_in : (were are gone stay : List (Option (List (Option P)))) → j ≢ k → slice_get are j ≡ slice_get were j → slice_get stay j ≡ slice_get gone j → AreIn posted whole count j said were gone → AreIn posted whole count j now are stay
      other_in were are gone stay other e f a = record {
        posters = a.posters;
        at = e ∙ a.at;
        none = f ∙ a.none;
        say = say_by whole count (λ realm. said realm (j + 1)) (λ realm. now realm (j + 1)) a.posters (λ i. of_said i j other) a.say;
      }

      others : j ≢ k → AreIn posted whole count j said free taken ⊎ AreIn posted whole count j said taken free → AreIn posted whole count j now left held ⊎ AreIn posted whole count j now held left
      others other (inl a) = inl (other_in free left taken held other (of_free j other) (of_taken j other) a)
      others other (inr a) = inr (other_in taken held free left other (of_taken j other) (of_free j other) a)

      by_place : (j ≡ k) ⊎ (j ≢ k) → AreIn posted whole count j now left held ⊎ AreIn posted whole count j now held left
      by_place (inl same) = subst (λ (n : ℕ). AreIn posted whole count n now left held ⊎ AreIn posted whole count n now held left) (sym same) (here (subst (λ (n : ℕ). AreIn posted whole count n said free taken ⊎ AreIn posted whole count n said taken free) same (h j less)))
      by_place (inr other) = others other (h j less)

  -- what stands in one of the two tables says so
  pub said_in : (whole count k : ℕ) (said : ℕ → ℕ → List A) (here there : List (Option (List (Option P)))) (posters : List (Option P)) → slice_get here k ≡ Some (Some posters) → AreIn posted whole count k said here there ⊎ AreIn posted whole count k said there here
      → (slice_get there k ≡ Some None) × Say posted whole count (λ realm. said realm (k + 1)) posters
  said_in whole count k said here there posters at (inl a) = (a.none, subst (λ l. Say posted whole count (λ realm. said realm (k + 1)) l) (same_Some a.posters posters (same_Some (Some a.posters) (Some posters) (sym a.at ∙ at))) a.say)
  said_in whole count k said here there posters at (inr a) = absurd (none-some posters (same_Some None (Some posters) (sym a.none ∙ at)))

  -- the two tables exchanged
  pub swapped : (whole count k : ℕ) (said : ℕ → ℕ → List A) (here there : List (Option (List (Option P)))) → AreIn posted whole count k said here there ⊎ AreIn posted whole count k said there here → AreIn posted whole count k said there here ⊎ AreIn posted whole count k said here there
  swapped whole count k said here there (inl a) = inr a
  swapped whole count k said here there (inr a) = inl a

  -- from one table to the other
  pub moved : (whole count k : ℕ) (said now : ℕ → ℕ → List A) (here there : List (Option (List (Option P)))) (were are : List (Option P)) → slice_get here k ≡ Some (Some were)
      → (Say posted whole count (λ realm. said realm (k + 1)) were → Say posted whole count (λ realm. now realm (k + 1)) are) → AreIn posted whole count k said here there ⊎ AreIn posted whole count k said there here
      → AreIn posted whole count k now (set there k (Some are)) (set here k None)
  moved whole count k said now here there were are at on a =
      let s = said_in whole count k said here there were at a in
      record { posters = are; at = get_set there k None (Some are) s.0; none = get_set here k (Some were) None at; say = on s.1 }

  -- a free seat is taken
  pub seat_taken : (whole count k : ℕ) (said : ℕ → ℕ → List A) (free taken : List (Option (List (Option P)))) (were are : List (Option P)) → slice_get free k ≡ Some (Some were)
      → (Say posted whole count (λ realm. said realm (k + 1)) were → Say posted whole count (λ realm. said realm (k + 1)) are) → AllSay posted whole count said free taken → AllSay posted whole count said (set free k None) (set taken k (Some are))
  seat_taken whole count k said free taken were are at on h =
      all_but whole count k said said free (set free k None) taken (set taken k (Some are)) (λ j other. get_other free k j None other) (λ j other. get_other taken k j (Some are) other) (λ i j other. refl)
      (λ a. inr (moved whole count k said said free taken were are at on a)) h

  -- a seat that was taken is left
  pub seat_left : (whole count k : ℕ) (said now : ℕ → ℕ → List A) (free taken : List (Option (List (Option P)))) (were are : List (Option P)) → slice_get taken k ≡ Some (Some were) → ((i j : ℕ) → j ≢ k → now i (j + 1) ≡ said i (j + 1))
      → (Say posted whole count (λ realm. said realm (k + 1)) were → Say posted whole count (λ realm. now realm (k + 1)) are) → AllSay posted whole count said free taken → AllSay posted whole count now (set free k (Some are)) (set taken k None)
  seat_left whole count k said now free taken were are at others on h =
      all_but whole count k said now free (set free k (Some are)) taken (set taken k None) (λ j other. get_other free k j (Some are) other) (λ j other. get_other taken k j None other) others
      (λ a. inl (moved whole count k said now taken free were are at on (swapped whole count k said free taken a))) h

  -- a free seat's posters come back
  pub seat_back : (whole count k : ℕ) (said now : ℕ → ℕ → List A) (free taken : List (Option (List (Option P)))) (were are : List (Option P)) → slice_get free k ≡ Some (Some were) → ((i j : ℕ) → j ≢ k → now i (j + 1) ≡ said i (j + 1))
      → (Say posted whole count (λ realm. said realm (k + 1)) were → Say posted whole count (λ realm. now realm (k + 1)) are) → AllSay posted whole count said free taken → AllSay posted whole count now (set (set free k None) k (Some are)) taken
  seat_back whole count k said now free taken were are at others on h =
      all_but whole count k said now free (set (set free k None) k (Some are)) taken taken (λ j other. get_other (set free k None) k j (Some are) other ∙ get_other free k j None other) (λ j other. refl) others back h
    where
      back : AreIn posted whole count k said free taken ⊎ AreIn posted whole count k said taken free → AreIn posted whole count k now (set (set free k None) k (Some are)) taken ⊎ AreIn posted whole count k now taken (set (set free k None) k (Some are))
      back a =
          let s = said_in whole count k said free taken were at a in
          inl (record { posters = are; at = get_set (set free k None) k None (Some are) (get_set free k (Some were) None at); none = s.0; say = on s.1 })

  -- nothing more is said
  pub all_said : (whole count : ℕ) (said now : ℕ → ℕ → List A) (free taken : List (Option (List (Option P)))) → ((i number : ℕ) → now i number ≡ said i number) → AllSay posted whole count said free taken → AllSay posted whole count now free taken
  all_said whole count said now free taken same h k less = by_table (h k less)
    where
      in_table : (here there : List (Option (List (Option P)))) → AreIn posted whole count k said here there → AreIn posted whole count k now here there
      in_table here there a = record { posters = a.posters; at = a.at; none = a.none; say = say_by whole count (λ realm. said realm (k + 1)) (λ realm. now realm (k + 1)) a.posters (λ i. same i (k + 1)) a.say }

      by_table : AreIn posted whole count k said free taken ⊎ AreIn posted whole count k said taken free → AreIn posted whole count k now free taken ⊎ AreIn posted whole count k now taken free
      by_table (inl a) = inl (in_table free taken a)
      by_table (inr a) = inr (in_table taken free a)

  -- of no realm yet
  pub none_said : (whole : ℕ) (said : ℕ → ℕ → List A) (taken : List (Option (List (Option P)))) → ((k : ℕ) → k < 256 → slice_get taken k ≡ Some None) → AllSay posted whole 0 said (replicate 256 (Some (replicate whole None))) taken
  none_said whole said taken none k less = inl (record {
    posters = replicate whole None;
    at = get_same 256 k (Some (replicate whole None)) less;
    none = none k less;
    say = record { long = length-replicate whole None; each = λ i few. absurd (omega (arith, few)) };
  })

  -- of one realm more: at each free seat a poster by which nothing was posted
  pub one_said : (whole count : ℕ) (said : ℕ → ℕ → List A) (free left taken : List (Option (List (Option P)))) → count < whole → ((k : ℕ) → k < 256 → slice_get taken k ≡ Some None) → ((number : ℕ) → said count number ≡ [])
      → ((k : ℕ) → k < 256 → (p : P) × (posted p ≡ []) × (slice_get left k ≡ option_map (option_map (λ posters. set posters count (Some p))) (slice_get free k)))
      → AllSay posted whole count said free taken → AllSay posted whole (count + 1) said left taken
  one_said whole count said free left taken room none nothing gains h k less = inl (by_table (h k less))
    where
      by_table : AreIn posted whole count k said free taken ⊎ AreIn posted whole count k said taken free → AreIn posted whole (count + 1) k said left taken
      by_table (inr a) = absurd (none-some a.posters (same_Some None (Some a.posters) (sym (none k less) ∙ a.at)))
      by_table (inl a) = record {
        posters = set a.posters count (Some (gains k less).0);
        at = (gains k less).2 ∙ ap (option_map (option_map (λ posters. set posters count (Some (gains k less).0)))) a.at;
        none = a.none;
        say = record { long = length-set a.posters count (Some (gains k less).0) ∙ a.say.long; each = λ i few. each i few (same_or_other i count) };
      }
        where
          within : count < length a.posters
          within = subst (λ (n : ℕ). count < n) (sym a.say.long) room

          each : (i : ℕ) → i < count + 1 → (i ≡ count) ⊎ (i ≢ count) → (p : P) × (slice_get (set a.posters count (Some (gains k less).0)) i ≡ Some (Some p)) × (posted p ≡ said i (k + 1))
          each i few (inl same) = ((gains k less).0, subst (λ (n : ℕ). slice_get (set a.posters count (Some (gains k less).0)) n ≡ Some (Some (gains k less).0)) (sym same) (set_there a.posters count (Some (gains k less).0) within), (gains k less).1 ∙ sym (ap (λ n. said n (k + 1)) same ∙ nothing (k + 1)))
          each i few (inr other) = let p = a.say.each i (below i count few (λ same. other (sym same))) in (p.0, get_other a.posters count i (Some (gains k less).0) other ∙ p.1, p.2)
