-- Any octets split into frames and a rest that begins with none.
use Rattle.std.proofs.Common.{◌≡◌, ◌<◌, ◌≤◌, ◌+◌, ◌*◌, ◌/◌, ◌%◌, ◌++◌, ◌⊎◌, ℕ, zero, suc, List, [], ◌∷◌, length, take, drop, inl, inr, refl, sym, ap, ◌∙◌, subst, arith, append_assoc, length-append}
use Rattle.std.proofs.lemmas.List.{length-take-le}
use Rattle.std.proofs.lemmas.Grind.{flat_map-append}
use Rattle.std.specs.List.{flat_map, AllByRecursion}
use Rattle.rawsocket.specs.Frames.{Content, IsTaken, BeginsFrame, Splits, Reads, code, header, kept, spelled}
use Rattle.rawsocket.specs.Deframer.{Resumes}
use Rattle.rawsocket.specs.declared.frame.Kind.{Kind}
use Rattle.rawsocket.specs.declared.frame.Kind.TheVariants.{Message, Ping, Pong}
use Rattle.rawsocket.proofs.DeframerLemmas.{all_joined, nothing_left, pieces_join}
use Rattle.rawsocket.proofs.Stream.{goes_on, len_again}

lt_or : (x y : ℕ) → (x < y) ⊎ (y ≤ x)
lt_or x y = grind arith

code_small : (k : Kind) → code k < 3
code_small Message = omega arith
code_small Ping = omega arith
code_small Pong = omega arith

record KindOf (a : ℕ) : Type 0 where
  kind : Kind
  is : a ≡ code kind

kind_of : (a : ℕ) → a < 3 → KindOf a
kind_of zero lt = record { kind = Message; is = refl }
kind_of (suc zero) lt = record { kind = Ping; is = refl }
kind_of (suc (suc zero)) lt = record { kind = Pong; is = refl }
kind_of (suc (suc (suc n))) lt = absurd (omega (arith, lt))

-- where payloads may have so many octets at most
module _ (most : ℕ) where
  pub record SomeSplit (octets : List ℕ) : Type 0 where
    pub frames : List Content
    pub rest : List ℕ
    pub splits : Splits most octets frames rest

  -- what the front of octets is, where they begin with a frame
  record Heads (a b c d : ℕ) (ys : List ℕ) : Type 0 where
    kind : Kind
    len : ℕ
    type_is : a ≡ code kind
    high : b ≡ len / 65536
    middle : c ≡ len / 256 % 256
    low : d ≡ len % 256
    taken : len ≤ most
    there : len ≤ length ys

  heads : (a b c d : ℕ) (ys : List ℕ) → BeginsFrame most (a ∷ b ∷ c ∷ d ∷ ys) → Heads a b c d ys
  heads a b c d ys (f, more, taken, is) =
      let behind : ys ≡ f.payload ++ more = cc in
      record {
        kind = f.kind;
        len = length f.payload;
        type_is = cc;
        high = cc;
        middle = cc;
        low = cc;
        taken = taken;
        there = omega (arith, ap length behind, length-append f.payload more);
      }

  begins : (a b c d : ℕ) (ys : List ℕ) → a < 3 → c < 256 → d < 256 → b * 65536 + c * 256 + d ≤ most → b * 65536 + c * 256 + d ≤ length ys → BeginsFrame most (a ∷ b ∷ c ∷ d ∷ ys)
  begins a b c d ys a_fits c_fits d_fits taken there =
      let n : ℕ = b * 65536 + c * 256 + d in
      let k = kind_of a a_fits in
      let high : b ≡ n / 65536 = omega arith in
      let middle : c ≡ n / 256 % 256 = omega arith in
      let low : d ≡ n % 256 = omega arith in
      let head : a ∷ b ∷ c ∷ d ∷ [] ≡ header k.kind n = ap (λ x. x ∷ b ∷ c ∷ d ∷ []) k.is ∙ ap (λ x. code k.kind ∷ x ∷ c ∷ d ∷ []) high ∙ ap (λ x. code k.kind ∷ n / 65536 ∷ x ∷ d ∷ []) middle ∙ ap (λ x. code k.kind ∷ n / 65536 ∷ n / 256 % 256 ∷ x ∷ []) low in (
        record { kind = k.kind; payload = take n ys },
        drop n ys,
        omega (arith, length-take-le n ys there, taken),
        goes_on (a ∷ b ∷ c ∷ d ∷ []) [] ys (a ∷ b ∷ c ∷ d ∷ ys) (take n ys) (drop n ys) k.kind n n head refl (omega arith) there refl refl,
      )

  begins_or : (octets : List ℕ) → BeginsFrame most octets ⊎ (BeginsFrame most octets → ⊥)
  begins_or [] = inr (λ w. cc)
  begins_or (a ∷ []) = inr (λ w. cc)
  begins_or (a ∷ b ∷ []) = inr (λ w. cc)
  begins_or (a ∷ b ∷ c ∷ []) = inr (λ w. cc)
  begins_or (a ∷ b ∷ c ∷ d ∷ ys) =
      elim (lt_or a 3) [
        | inr big ↦ inr (λ w. let h = heads a b c d ys w in omega (arith, big, h.type_is, code_small h.kind))
        | inl a_fits ↦ elim (lt_or c 256) [
          | inr big ↦ inr (λ w. let h = heads a b c d ys w in omega (arith, big, h.middle))
          | inl c_fits ↦ elim (lt_or d 256) [
            | inr big ↦ inr (λ w. let h = heads a b c d ys w in omega (arith, big, h.low))
            | inl d_fits ↦ elim (lt_or most (b * 65536 + c * 256 + d)) [
              | inl long ↦ inr (λ w. let h = heads a b c d ys w in omega (arith, long, h.high, h.middle, h.low, h.taken, len_again h.len))
              | inr taken ↦ elim (lt_or (length ys) (b * 65536 + c * 256 + d)) [
                | inl short ↦ inr (λ w. let h = heads a b c d ys w in omega (arith, short, h.high, h.middle, h.low, h.there, len_again h.len))
                | inr there ↦ inl (begins a b c d ys a_fits c_fits d_fits taken there)
              ]
            ]
          ]
        ]
      ]

  -- the frame at the front, and the others
  and_more : (octets : List ℕ) (f : Content) (more : List ℕ) → IsTaken most f → octets ≡ spelled f ++ more → SomeSplit more → SomeSplit octets
  and_more octets f more taken is s = record {
    frames = f ∷ s.frames;
    rest = s.rest;
    splits = record {
      whole = is ∙ ap (λ m. spelled f ++ m) s.splits.whole ∙ sym (append_assoc (spelled f) (flat_map spelled s.frames) s.rest);
      each = (taken, s.splits.each);
      ended = s.splits.ended;
    };
  }

  within : (bound : ℕ) (octets : List ℕ) → length octets ≤ bound → SomeSplit octets
  within zero [] few = record { frames = []; rest = []; splits = record { whole = refl; each = tt; ended = λ w. cc } }
  within zero (x ∷ xs) few = absurd (omega (arith, few))
  within (suc bound) octets few = elim (begins_or octets) [
    | inr none ↦ record { frames = []; rest = octets; splits = record { whole = refl; each = tt; ended = none } }
    | inl w ↦ and_more octets w.0 w.1 w.2 w.3 (within bound w.1 (omega (arith, few, ap length w.3, length-append w.0.payload w.1)))
  ]

  pub some_split : (octets : List ℕ) → SomeSplit octets
  some_split octets = within (length octets) octets (omega arith)

  pub each_splits : (octets : List ℕ) → (frames : List Content) × (rest : List ℕ) × Splits most octets frames rest
  each_splits octets = let s = some_split octets in (s.frames, s.rest, s.splits)

  -- octets give these frames, and others behind them
  pub record ReadsMore (octets : List ℕ) (frames : List Content) : Type 0 where
    pub more : List Content
    pub held : List ℕ
    pub reads : Reads most octets (frames ++ more) held

  -- any octets give some frames
  pub some_reads : (octets : List ℕ) → ReadsMore octets []
  some_reads octets =
      let s = some_split octets in
      record { more = s.frames; held = kept most s.rest; reads = record { rest = s.rest; splits = s.splits; held_is = refl } }

  -- frames at the front of octets, and those behind them
  reads_on : (octets back : List ℕ) (frames : List Content) → AllByRecursion (IsTaken most) frames → octets ≡ flat_map spelled frames ++ back → ReadsMore octets frames
  reads_on octets back frames each whole =
      let s = some_split back in
      record {
        more = s.frames;
        held = kept most s.rest;
        reads = record {
          rest = s.rest;
          splits = record {
            whole = whole ∙ ap (λ b. flat_map spelled frames ++ b) s.splits.whole ∙ sym (append_assoc (flat_map spelled frames) (flat_map spelled s.frames) s.rest)
                ∙ ap (λ o. o ++ s.rest) (sym (flat_map-append spelled frames s.frames));
            each = all_joined most frames s.frames each s.splits.each;
            ended = s.splits.ended;
          };
          held_is = refl;
        };
      }

  behind_held : (new rest back : List ℕ) (frames : List Content) → (new ≡ []) ⊎ (rest ≡ []) → AllByRecursion (IsTaken most) frames → rest ≡ flat_map spelled frames ++ back → ReadsMore (new ++ rest) frames
  behind_held new rest back frames (inl none) each whole = subst (λ n. ReadsMore (n ++ rest) frames) (sym none) (reads_on rest back frames each whole)
  behind_held new rest back frames (inr end) each whole = subst (ReadsMore (new ++ rest)) (sym (nothing_left frames back (sym whole ∙ end)).0) (some_reads (new ++ rest))

  -- where whole frames of the rest of a piece were read behind it, all of the piece gives these and others
  pub resumed_more : (old piece rest back new : List ℕ) (frames more : List Content) → Resumes most old piece frames new rest → AllByRecursion (IsTaken most) more → rest ≡ flat_map spelled more ++ back → ReadsMore (old ++ piece) (frames ++ more)
  resumed_more old piece rest back new frames more r each whole =
      let w = behind_held new rest back more r.clear each whole in
      let joined : Reads most ((old ++ r.front) ++ rest) (frames ++ (more ++ w.more)) w.held = pieces_join most (old ++ r.front) rest new w.held frames (more ++ w.more) r.reads w.reads in
      let octets : (old ++ r.front) ++ rest ≡ old ++ piece = append_assoc old r.front rest ∙ ap (λ p. old ++ p) (sym r.piece_is) in
      record {
        more = w.more;
        held = w.held;
        reads = subst (λ o. Reads most o ((frames ++ more) ++ w.more) w.held) octets (subst (λ f. Reads most ((old ++ r.front) ++ rest) f w.held) (sym (append_assoc frames more w.more)) joined);
      }
