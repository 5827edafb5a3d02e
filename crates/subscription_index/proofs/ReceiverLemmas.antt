-- Receivers: what a search finds of them.
use Rattle.std.proofs.Common.{◌≡◌, ◌<◌, ◌≤◌, ◌+◌, ℕ, Bool, true, false, not, ◌&&◌, ◌||◌, eqb, List, [], ◌∷◌, ◌++◌, map, take, length, get_or, Option, Some, None, ◌⊎◌, inl, inr, refl, sym, ap, ◌∙◌, subst, arith}
use Rattle.std.specs.BTreeMap.{get}
use Rattle.std.specs.Ordering.{nat_cmp}
use Rattle.std.proofs.Math.Bool.{or-false, and-false}
use Rattle.std.proofs.lemmas.List.{take_more, map-append}
use Rattle.std.proofs.lemmas.Bool.{and_parts, or_cases, or_left, or_right, eqb-true, eq-eqb}
use Rattle.std.proofs.lemmas.Bool.Decides.{nat_tests}
use Rattle.wamp_ids.proofs.Lemmas.{bytes_eq-true, bytes_eq-refl}
use Rattle.wamp_ids.specs.Pattern.{PatternText, matches, same_pattern}
use Rattle.wamp_ids.specs.declared.pattern.Policy.{Policy}
use Rattle.wamp_ids.specs.declared.pattern.Policy.TheVariants.{Exact, Prefix, Wildcard}
use Rattle.subscription_index.specs.declared.names.Names.{Names}
use Rattle.subscription_index.specs.declared.receiver.Receiver.{Receiver}
use Rattle.subscription_index.specs.Index.{Row, IsBeforeAll, IsStrictlyAscending, IsNamed, keys, has_key, same_key, number_of, matching}
use Rattle.subscription_index.specs.Members.{has_row}
use Rattle.subscription_index.specs.Receiver.{names_topic, is_named, receiver_at, receivers}
use Rattle.subscription_index.specs.body.Found.{has, Adds}
use Rattle.subscription_index.specs.body.Conns.{IsBelowAll, AreAscending}
use Rattle.subscription_index.specs.body.Holders.{Holders, Counts, IsShared, NamesAll, among, is_holder}
use Rattle.subscription_index.specs.body.Names.{number_named}
use Rattle.subscription_index.specs.body.Receivers.{keys_of, is_number, is_either, receiver_by, AreFound}
use Rattle.subscription_index.proofs.FoundLemmas.{has-append}
use Rattle.subscription_index.proofs.Keys.{members_decide, ascending-filter, same_key-refl}
use Rattle.subscription_index.proofs.Matching.{found_pairs}
use Rattle.subscription_index.proofs.Members.{has_row-named, has_row-pattern_of, number_of-has_row, pattern_of-matching}
use Rattle.subscription_index.proofs.NumbersNamePatterns.{names_held}

-- ---- lists of receivers

pub keys-by : (f : ℕ → Bool) (ks : List (ℕ × ℕ)) → keys_of (map (receiver_by f) ks) ≡ ks
keys-by f [] = refl
keys-by f (k ∷ ks) = ap (λ l. k ∷ l) (keys-by f ks)

pub keys-at : (rows : List Row) (ks : List (ℕ × ℕ)) → keys_of (map (receiver_at rows) ks) ≡ ks
keys-at rows [] = refl
keys-at rows (k ∷ ks) = ap (λ l. k ∷ l) (keys-at rows ks)

-- two ways that agree on the keys
same_receivers : (f g : ℕ × ℕ → Receiver) (ks : List (ℕ × ℕ)) → ((c n : ℕ) → has_key ks (c, n) ≡ true → f (c, n) ≡ g (c, n)) → map f ks ≡ map g ks
same_receivers f g [] same = refl
same_receivers f g (k ∷ ks) same =
    ap (λ r. r ∷ map f ks) (same k.0 k.1 (or_left (same_key k k) (has_key ks k) (same_key-refl k)))
    ∙ ap (λ rs. g k ∷ rs) (same_receivers f g ks (λ c n h. same c n (or_right (same_key k (c, n)) (has_key ks (c, n)) h)))

-- one receiver more
pub one_more_receiver : (f : ℕ × ℕ → Receiver) (ks : List (ℕ × ℕ)) (i : ℕ) (k : ℕ × ℕ) (old new : List Receiver) (r : Receiver) → i < length ks → k ≡ get_or ks i k
    → old ≡ map f (take i ks) → new ≡ old ++ r ∷ [] → r ≡ f k → new ≡ map f (take (i + 1) ks)
one_more_receiver f ks i k old new r small is before more this =
    more ∙ (ap (λ rs. rs ++ r ∷ []) before ∙ (ap (λ q. map f (take i ks) ++ q ∷ []) (this ∙ ap f is)
    ∙ sym (ap (map f) (take_more ks i k small) ∙ map-append f (take i ks) (get_or ks i k ∷ []))))

-- ---- of one number

abbrev under : ℕ → Bool → ℕ → Receiver
under number told c = receiver_by (λ n. told) (c, number)

before-under : (c number : ℕ) (told : Bool) (xs : List ℕ) → IsBelowAll c xs → IsBeforeAll (c, number) (keys_of (map (under number told) xs))
before-under c number told [] below = tt
before-under c number told (x ∷ xs) below = (let less = below.0 in grind (arith, nat_tests, less), before-under c number told xs below.1)

ascending-under : (number : ℕ) (told : Bool) (xs : List ℕ) → AreAscending xs → IsStrictlyAscending (keys_of (map (under number told) xs))
ascending-under number told [] ascending = tt
ascending-under number told (x ∷ xs) ascending = (before-under x number told xs ascending.0, ascending-under number told xs ascending.1)

has-under : (number : ℕ) (told : Bool) (xs : List ℕ) (c n : ℕ) → has_key (keys_of (map (under number told) xs)) (c, n) ≡ eqb number n && has xs c
has-under number told [] c n = sym (and-false (eqb number n))
has-under number told (x ∷ xs) c n = ap (λ b. (eqb x c && eqb number n) || b) (has-under number told xs c n) ∙ shuffle (eqb x c) (eqb number n) (has xs c)
  where
    shuffle : (a b d : Bool) → (a && b) || (b && d) ≡ b && (a || d)
    shuffle true true d = refl
    shuffle true false d = refl
    shuffle false b d = refl

named-under : (number : ℕ) (told : Bool) (xs : List ℕ) → map (under number told) xs ≡ map (receiver_by (λ n. told)) (keys_of (map (under number told) xs))
named-under number told [] = refl
named-under number told (x ∷ xs) = ap (λ rs. under number told x ∷ rs) (named-under number told xs)

at_number : (holders : Holders) (number : ℕ) (o : Option (List ℕ)) → get nat_cmp holders number ≡ o → (c n : ℕ) → eqb number n && among o c ≡ eqb number n && is_holder holders c n
at_number holders number o is c n = by_value (eqb number n) refl
  where
    by_value : (b : Bool) → eqb number n ≡ b → b && among o c ≡ b && is_holder holders c n
    by_value true h = ap (λ q. among q c) (sym is) ∙ ap (is_holder holders c) (eqb-true number n h)
    by_value false h = refl

pub found-none : (holders : Holders) (number : ℕ) (told : Bool) (found : List Receiver) → found ≡ [] → get nat_cmp holders number ≡ None
    → AreFound holders (λ n. eqb number n) (λ n. told) found
found-none holders number told found none is = subst (λ rs. AreFound holders (λ n. eqb number n) (λ n. told) rs) (sym none) (record {
  ascending = tt;
  members = λ c n. sym (and-false (eqb number n)) ∙ at_number holders number None is c n;
  named = refl;
})

pub found-under : (holders : Holders) (number : ℕ) (told : Bool) (xs : List ℕ) (found : List Receiver) → found ≡ map (under number told) xs
    → AreAscending xs → get nat_cmp holders number ≡ Some xs → AreFound holders (λ n. eqb number n) (λ n. told) found
found-under holders number told xs found these ascending is = subst (λ rs. AreFound holders (λ n. eqb number n) (λ n. told) rs) (sym these) (record {
  ascending = ascending-under number told xs ascending;
  members = λ c n. has-under number told xs c n ∙ at_number holders number (Some xs) is c n;
  named = named-under number told xs;
})

-- ---- of several numbers

pub found-keys : (holders : Holders) (is_asked told : ℕ → Bool) (ks : List (ℕ × ℕ)) (found : List Receiver) → found ≡ map (receiver_by told) ks → IsStrictlyAscending ks
    → ((c n : ℕ) → has_key ks (c, n) ≡ is_asked n && is_holder holders c n) → AreFound holders is_asked told found
found-keys holders is_asked told ks found these ascending members =
    let same : keys_of found ≡ ks = ap keys_of these ∙ keys-by told ks in
    record {
      ascending = subst IsStrictlyAscending (sym same) ascending;
      members = λ c n. ap (λ l. has_key l (c, n)) same ∙ members c n;
      named = these ∙ ap (map (receiver_by told)) (sym same);
    }

-- both kinds of numbers, one after the other
pub either-holder : (a b h : Bool) → (b && h) || (a && h) ≡ (a || b) && h
either-holder true true true = refl
either-holder true true false = refl
either-holder true false h = refl
either-holder false true true = refl
either-holder false true false = refl
either-holder false false h = refl

-- other words for the numbers that are asked for, and for what they tell
pub found-as : (holders : Holders) (asked other told new : ℕ → Bool) (found : List Receiver) → ((n : ℕ) → asked n ≡ other n) → ((n : ℕ) → asked n ≡ true → told n ≡ new n)
    → AreFound holders asked told found → AreFound holders other new found
found-as holders asked other told new found same agree f = record {
  ascending = f.ascending;
  members = λ c n. f.members c n ∙ ap (λ b. b && is_holder holders c n) (same n);
  named = f.named ∙ same_receivers (receiver_by told) (receiver_by new) (keys_of found)
      (λ c n h. ap (λ b. record { conn = c; number = n; names_topic = b }) (agree n (and_parts (asked n) (is_holder holders c n) (sym (f.members c n) ∙ h)).0));
}

pub one-long : (xs : List ℕ) (x : ℕ) → 1 ≤ length xs → length xs < 2 → x ≡ get_or xs 0 x → xs ≡ x ∷ []
one-long [] x least below is = absurd (omega arith)
one-long (y ∷ []) x least below is = ap (λ z. z ∷ []) (sym is)
one-long (y ∷ z ∷ zs) x least below is = absurd (omega arith)

pub none-long : (xs : List ℕ) → length xs < 1 → xs ≡ []
none-long [] below = refl
none-long (x ∷ xs) below = absurd (omega arith)

-- one number alone, of an exact pattern or of another
pub found-exact : (holders : Holders) (number : ℕ) (exact : Option ℕ) (others : List ℕ) (found : List Receiver) → exact ≡ Some number → others ≡ []
    → AreFound holders (λ n. eqb number n) (λ n. false) found → AreFound holders (is_either exact others) (λ n. not (is_number exact n)) found
found-exact holders number exact others found is none =
    found-as holders (λ n. eqb number n) (is_either exact others) (λ n. false) (λ n. not (is_number exact n)) found
    (λ n. sym (ap (λ o. is_number o n || has others n) is ∙ (ap (λ ns. eqb number n || has ns n) none ∙ or-false (eqb number n))))
    (λ n h. sym (ap (λ o. not (is_number o n)) is ∙ ap not h))

pub found-other : (holders : Holders) (number : ℕ) (exact : Option ℕ) (others : List ℕ) (found : List Receiver) → exact ≡ None → others ≡ number ∷ []
    → AreFound holders (λ n. eqb number n) (λ n. true) found → AreFound holders (is_either exact others) (λ n. not (is_number exact n)) found
found-other holders number exact others found is alone =
    found-as holders (λ n. eqb number n) (is_either exact others) (λ n. true) (λ n. not (is_number exact n)) found
    (λ n. sym (ap (λ o. is_number o n || has others n) is ∙ (ap (λ ns. has ns n) alone ∙ or-false (eqb number n))))
    (λ n h. sym (ap (λ o. not (is_number o n)) is))

-- ---- of all patterns that match a topic

-- the number as a list
abbrev alone : Option ℕ → List ℕ
alone None = []
alone (Some n) = n ∷ []

has-alone : (o : Option ℕ) (n : ℕ) → has (alone o) n ≡ is_number o n
has-alone None n = refl
has-alone (Some m) n = or-false (eqb m n)

number-is : (o : Option ℕ) (n : ℕ) → is_number o n ≡ true → o ≡ Some n
number-is None n h = let e : false ≡ true = h in cc
number-is (Some m) n h = ap (λ k. Some k) (eqb-true m n h)

is-number : (o : Option ℕ) (n : ℕ) → o ≡ Some n → is_number o n ≡ true
is-number o n e = ap (λ q. is_number q n) e ∙ eq-eqb n n refl

module _ (names : Names) (topic : List ℕ) (exact : Option ℕ) (others : List ℕ) (is : exact ≡ number_named names (record { policy = Exact; text = topic }))
    (adds : Adds (number_named names) (λ p. names_topic p.policy && matches p topic) [] others) where
  numbers : List ℕ
  numbers = alone exact ++ others

  has-numbers : (n : ℕ) → has (alone exact ++ others) n ≡ is_either exact others n
  has-numbers n = has-append (alone exact) others n ∙ ap (λ b. b || has others n) (has-alone exact n)

  there : (policy : Policy) (text : List ℕ) (n : ℕ) → number_named names (record { policy = policy; text = text }) ≡ Some n → matches (record { policy = policy; text = text }) topic ≡ true
      → is_either exact others n ≡ true
  there Exact text n named h =
      let same : text ≡ topic = bytes_eq-true text topic h in
      or_left (is_number exact n) (has others n) (is-number exact n (is ∙ (ap (λ t. number_named names (record { policy = Exact; text = t })) (sym same) ∙ named)))
  there Prefix text n named h = or_right (is_number exact n) (has others n) (adds.found (record { policy = Prefix; text = text }) n named h)
  there Wildcard text n named h = or_right (is_number exact n) (has others n) (adds.found (record { policy = Wildcard; text = text }) n named h)

  back : (n : ℕ) → (is_number exact n ≡ true) ⊎ (has others n ≡ true) → (p : PatternText) × (number_named names p ≡ Some n) × (matches p topic ≡ true)
  back n (inl l) = (record { policy = Exact; text = topic }, sym is ∙ number-is exact n l, bytes_eq-refl topic)
  back n (inr r) = from (adds.only n r)
    where
      from : (has [] n ≡ true) ⊎ ((p : PatternText) × (number_named names p ≡ Some n) × (names_topic p.policy && matches p topic ≡ true))
          → (p : PatternText) × (number_named names p ≡ Some n) × (matches p topic ≡ true)
      from (inl none) = let e : false ≡ true = none in cc
      from (inr s) = (s.0, s.1, (and_parts (names_topic s.0.policy) (matches s.0 topic) s.2).1)

  all_numbers : Adds (number_named names) (λ p. matches p topic) [] (alone exact ++ others)
  all_numbers = record {
    kept = λ n h. let e : false ≡ true = h in cc;
    found = λ p n named h. has-numbers n ∙ there p.policy p.text n named h;
    only = λ n h. inr (back n (or_cases (is_number exact n) (has others n) (sym (has-numbers n) ∙ h)));
  }

-- whether a pattern that is held leaves the topic to be named is told by its number
told_by_number : (rows : List Row) (topic : List ℕ) (c n : ℕ) (p : PatternText) (exact : Option ℕ) → IsNamed rows → exact ≡ number_of rows (record { policy = Exact; text = topic })
    → has_row rows ((c, n), p) ≡ true → matches p topic ≡ true → not (is_number exact n) ≡ names_topic p.policy
told_by_number rows topic c n p exact named is there fits = by_policy p.policy p.text there fits
  where
    whole : PatternText
    whole = record { policy = Exact; text = topic }

    other : (q : PatternText) → has_row rows ((c, n), q) ≡ true → same_pattern (record { policy = Exact; text = topic }) q ≡ false → (b : Bool) → is_number exact n ≡ b → not b ≡ true
    other q held differ true h =
        let e : number_of rows (record { policy = Exact; text = topic }) ≡ Some n = sym is ∙ number-is exact n h in
        let same : same_pattern (record { policy = Exact; text = topic }) q ≡ true =
        has_row-named n (record { policy = Exact; text = topic }) rows c n q (names_held rows (record { policy = Exact; text = topic }) n named e) held ∙ eq-eqb n n refl in
        let clash : true ≡ false = sym same ∙ differ in
        cc
    other q held differ false h = refl

    by_policy : (policy : Policy) (text : List ℕ) → has_row rows ((c, n), record { policy = policy; text = text }) ≡ true → matches (record { policy = policy; text = text }) topic ≡ true
        → not (is_number exact n) ≡ names_topic policy
    by_policy Exact text held h =
        let same : text ≡ topic = bytes_eq-true text topic h in
        let e : number_of rows (record { policy = Exact; text = text }) ≡ Some n = number_of-has_row rows c n (record { policy = Exact; text = text }) named held in
        ap not (is-number exact n (is ∙ (ap (λ t. number_of rows (record { policy = Exact; text = t })) (sym same) ∙ e)))
    by_policy Prefix text held h = other (record { policy = Prefix; text = text }) held refl (is_number exact n) refl
    by_policy Wildcard text held h = other (record { policy = Wildcard; text = text }) held refl (is_number exact n) refl

pub found_receivers : (rows : List Row) (names : Names) (holders : Holders) (counts : Counts) (topic : List ℕ) (exact : Option ℕ) (others : List ℕ) (found : List Receiver)
    → IsStrictlyAscending (keys rows) → IsNamed rows → NamesAll rows names → IsShared rows holders counts → exact ≡ number_named names (record { policy = Exact; text = topic })
    → Adds (number_named names) (λ p. names_topic p.policy && matches p topic) [] others → AreFound holders (is_either exact others) (λ n. not (is_number exact n)) found
    → found ≡ receivers rows topic
found_receivers rows names holders counts topic exact others found up named all shared is adds f =
    f.named ∙ (ap (map (receiver_by (λ n. not (is_number exact n)))) same_keys
    ∙ same_receivers (receiver_by (λ n. not (is_number exact n))) (receiver_at rows) (matching rows topic) agree)
  where
    same_keys : keys_of found ≡ matching rows topic
    same_keys = members_decide (keys_of found) (matching rows topic) f.ascending (ascending-filter (λ r. matches r.1 topic) rows up)
        (λ k. f.members k.0 k.1 ∙ (ap (λ b. b && is_holder holders k.0 k.1) (sym (has-numbers names topic exact others is adds k.1))
        ∙ found_pairs rows names holders counts topic (alone exact ++ others) up named all shared (all_numbers names topic exact others is adds) k.0 k.1))

    agree : (c n : ℕ) → has_key (matching rows topic) (c, n) ≡ true → receiver_by (λ m. not (is_number exact m)) (c, n) ≡ receiver_at rows (c, n)
    agree c n h =
        let r = pattern_of-matching rows topic c n up h in
        ap (λ b. record { conn = c; number = n; names_topic = b })
        (told_by_number rows topic c n r.0 exact named (is ∙ all (record { policy = Exact; text = topic })) (has_row-pattern_of rows c n r.0 r.1) r.2 ∙ ap is_named (sym r.1))
