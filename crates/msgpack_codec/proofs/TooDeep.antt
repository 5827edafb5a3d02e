-- What is refused as too deep is, and what is too deep is refused so.
use Rattle.std.proofs.Common.{◌≡◌, ℕ, zero, suc, ◌*◌, ◌<◌, Bool, true, ◌&&◌, List, [], ◌∷◌, ◌++◌, length, Ok, Err, inl, inr, refl, sym, ap, ◌∙◌, append_assoc, arith}
use Rattle.message_tree.specs.Data as tree
use Rattle.msgpack_codec.specs.declared.fault.Fault.TheVariants.{TooDeep}
use Rattle.msgpack_codec.specs.declared.format.Form.{Form}
use Rattle.msgpack_codec.specs.declared.format.Form.TheVariants as forms
use Rattle.msgpack_codec.specs.Format.{form_of}
use Rattle.msgpack_codec.specs.body.Decoder.{◌>>=◌, Found, size_at, push_item, items_at, dict_at, leaf_at, nest_at, value_at}
use Rattle.msgpack_codec.specs.Values.{keep_entry, is_text}
use Rattle.msgpack_codec.specs.Grammar.{AreSpelled, Spells, Opens, IsDeepInside, IsDeep}
use Rattle.msgpack_codec.proofs.ReadFaults.{bind_err, size_fails, leaf_deep}
use Rattle.msgpack_codec.proofs.ReadIsSpelled.{read, Front, size_found, value_found}
use Rattle.msgpack_codec.proofs.SpelledIsRead.{then_ok, size_again, value_again}

-- ---- members

-- whole members, and then one that is too deep
abbrev DeepAfter : (List ℕ → tree.Data → Type 0) → (List ℕ → Type 0) → ℕ → List ℕ → Type 0
DeepAfter S D n octets = (front back : List ℕ) × (ds : List tree.Data) × (length ds < n) × (octets ≡ front ++ back) × AreSpelled S front ds × D back

items_deep : (p : List ℕ → Found tree.Data) (S : List ℕ → tree.Data → Type 0) (D : List ℕ → Type 0) (tells : (octets : List ℕ) (d : tree.Data) (rest : List ℕ) → p octets ≡ Ok (d, rest) → Front (λ f. S f d) octets rest)
    (deep : (octets : List ℕ) → p octets ≡ Err TooDeep → D octets) (n : ℕ) (found : tree.Items) (octets : List ℕ) → items_at p n found octets ≡ Err TooDeep → DeepAfter S D n octets
unfolding items_at
items_deep p S D tells deep zero found octets h = absurd cc
items_deep p S D tells deep (suc n) found octets h =
    elim (bind_err (p octets) (λ d. items_at p n (push_item found d.0) d.1) TooDeep h) [
      | inl e ↦ ([], octets, [], omega arith, refl, refl, deep octets e)
      | inr q ↦
          let one = tells octets q.0.0 q.0.1 q.1 in
          let more = items_deep p S D tells deep n (push_item found q.0.0) q.0.1 q.2 in (
            one.0 ++ more.0,
            more.1,
            q.0.0 ∷ more.2,
            omega (arith, more.3),
            one.1 ∙ ap (λ (r : List ℕ). one.0 ++ r) more.4 ∙ sym (append_assoc one.0 more.0 more.1),
            (one.0, more.0, refl, one.2, more.5),
            more.6,
          )
    ]

dict_deep : (p : List ℕ → Found tree.Data) (S : List ℕ → tree.Data → Type 0) (D : List ℕ → Type 0) (tells : (octets : List ℕ) (d : tree.Data) (rest : List ℕ) → p octets ≡ Ok (d, rest) → Front (λ f. S f d) octets rest)
    (deep : (octets : List ℕ) → p octets ≡ Err TooDeep → D octets) (n : ℕ) (found : tree.Entries) (texts : Bool) (octets : List ℕ) → dict_at p n found texts octets ≡ Err TooDeep → DeepAfter S D (2 * n) octets
unfolding dict_at
dict_deep p S D tells deep zero found texts octets h = absurd cc
dict_deep p S D tells deep (suc n) found texts octets h =
    elim (bind_err (p octets) (λ k. p k.1 >>= λ v. dict_at p n (keep_entry k.0 v.0 found) (texts && is_text k.0) v.1) TooDeep h) [
      | inl e ↦ ([], octets, [], omega arith, refl, refl, deep octets e)
      | inr q ↦
          let key = tells octets q.0.0 q.0.1 q.1 in
          elim (bind_err (p q.0.1) (λ v. dict_at p n (keep_entry q.0.0 v.0 found) (texts && is_text q.0.0) v.1) TooDeep q.2) [
            | inl e ↦ (key.0 ++ [], q.0.1, q.0.0 ∷ [], omega arith, key.1 ∙ simp append_assoc, (key.0, [], refl, key.2, refl), deep q.0.1 e)
            | inr r ↦
                let value = tells q.0.1 r.0.0 r.0.1 r.1 in
                let more = dict_deep p S D tells deep n (keep_entry q.0.0 r.0.0 found) (texts && is_text q.0.0) r.0.1 r.2 in (
                  key.0 ++ (value.0 ++ more.0),
                  more.1,
                  q.0.0 ∷ r.0.0 ∷ more.2,
                  omega (arith, more.3),
                  key.1 ∙ ap (λ (o : List ℕ). key.0 ++ o) (value.1 ∙ ap (λ (o : List ℕ). value.0 ++ o) more.4) ∙ simp append_assoc,
                  (key.0, value.0 ++ more.0, refl, key.2, (value.0, more.0, refl, value.2, more.5)),
                  more.6,
                )
          ]
    ]

nest_deep : (p : List ℕ → Found tree.Data) (S : List ℕ → tree.Data → Type 0) (D : List ℕ → Type 0) (tells : (octets : List ℕ) (d : tree.Data) (rest : List ℕ) → p octets ≡ Ok (d, rest) → Front (λ f. S f d) octets rest)
    (deep : (octets : List ℕ) → p octets ≡ Err TooDeep → D octets) (form : Form) (octets : List ℕ) → nest_at p form octets ≡ Err TooDeep → IsDeepInside S D form octets
unfolding nest_at
nest_deep p S D tells deep forms.Null octets h = leaf_deep forms.Null octets h
nest_deep p S D tells deep (forms.Flag b) octets h = leaf_deep (forms.Flag b) octets h
nest_deep p S D tells deep (forms.Whole z) octets h = leaf_deep (forms.Whole z) octets h
nest_deep p S D tells deep (forms.Unsigned w) octets h = leaf_deep (forms.Unsigned w) octets h
nest_deep p S D tells deep (forms.Signed w) octets h = leaf_deep (forms.Signed w) octets h
nest_deep p S D tells deep (forms.Text size) octets h = leaf_deep (forms.Text size) octets h
nest_deep p S D tells deep (forms.Bytes size) octets h = leaf_deep (forms.Bytes size) octets h
nest_deep p S D tells deep (forms.List size) octets h =
    elim (bind_err (size_at size octets) (λ n. items_at p n.0 tree.no_items n.1 >>= λ x. read {A = tree.Data} (tree.list x.0) x.1) TooDeep h) [
      | inl e ↦ absurd (cc (size_fails size octets TooDeep e))
      | inr q ↦ elim (bind_err (items_at p q.0.0 tree.no_items q.0.1) (λ x. read {A = tree.Data} (tree.list x.0) x.1) TooDeep q.2) [
        | inl e ↦
            let head = size_found size octets q.0.0 q.0.1 q.1 in
            let m = items_deep p S D tells deep q.0.0 tree.no_items q.0.1 e in
            (q.0.0, head.0, m.0, m.1, m.2, head.2, m.3, head.1 ∙ ap (λ (o : List ℕ). head.0 ++ o) m.4, m.5, m.6)
        | inr r ↦ absurd (cc (r.2))
      ]
    ]
nest_deep p S D tells deep (forms.Dict size) octets h =
    elim (bind_err (size_at size octets) (λ n. dict_at p n.0 tree.no_entries true n.1) TooDeep h) [
      | inl e ↦ absurd (cc (size_fails size octets TooDeep e))
      | inr q ↦
          let head = size_found size octets q.0.0 q.0.1 q.1 in
          let m = dict_deep p S D tells deep q.0.0 tree.no_entries true q.0.1 q.2 in
          (q.0.0, head.0, m.0, m.1, m.2, head.2, m.3, head.1 ∙ ap (λ (o : List ℕ). head.0 ++ o) m.4, m.5, m.6)
    ]
nest_deep p S D tells deep (forms.Foreign size) octets h = leaf_deep (forms.Foreign size) octets h
nest_deep p S D tells deep (forms.Float w) octets h = leaf_deep (forms.Float w) octets h
nest_deep p S D tells deep forms.Never octets h = leaf_deep forms.Never octets h

-- what is refused as too deep is too deep
pub deep_found : (room : ℕ) (octets : List ℕ) → value_at room octets ≡ Err TooDeep → IsDeep room octets
unfolding value_at IsDeep
deep_found zero [] h = absurd cc
deep_found zero (c ∷ octets) h = leaf_deep (form_of c) octets h
deep_found (suc room) [] h = absurd cc
deep_found (suc room) (c ∷ octets) h = nest_deep (value_at room) (Spells room) (IsDeep room) (value_found room) (deep_found room) (form_of c) octets h

-- ---- the other way

leaf_deep_again : (form : Form) (octets : List ℕ) → Opens form → leaf_at form octets ≡ Err TooDeep
unfolding leaf_at
leaf_deep_again forms.Null octets h = absurd h
leaf_deep_again (forms.Flag b) octets h = absurd h
leaf_deep_again (forms.Whole z) octets h = absurd h
leaf_deep_again (forms.Unsigned w) octets h = absurd h
leaf_deep_again (forms.Signed w) octets h = absurd h
leaf_deep_again (forms.Text size) octets h = absurd h
leaf_deep_again (forms.Bytes size) octets h = absurd h
leaf_deep_again (forms.List size) octets h = refl
leaf_deep_again (forms.Dict size) octets h = refl
leaf_deep_again (forms.Foreign size) octets h = absurd h
leaf_deep_again (forms.Float w) octets h = absurd h
leaf_deep_again forms.Never octets h = absurd h

items_deep_again : (p : List ℕ → Found tree.Data) (S : List ℕ → tree.Data → Type 0) (D : List ℕ → Type 0) (again : (f : List ℕ) (d : tree.Data) (rest : List ℕ) → S f d → p (f ++ rest) ≡ Ok (d, rest))
    (deep : (octets : List ℕ) → D octets → p octets ≡ Err TooDeep) (n : ℕ) (found : tree.Items) (front back : List ℕ) (ds : List tree.Data) → length ds < n → AreSpelled S front ds → D back
    → items_at p n found (front ++ back) ≡ Err TooDeep
unfolding items_at
items_deep_again p S D again deep zero found front back ds lt h b = absurd (omega arith)
items_deep_again p S D again deep (suc n) found front back [] lt h b = rw (h, deep back b) refl
items_deep_again p S D again deep (suc n) found front back (d ∷ ds) lt h b =
    let parts : front ++ back ≡ h.0 ++ (h.1 ++ back) = ap (λ (x : List ℕ). x ++ back) h.2 ∙ append_assoc h.0 h.1 back in
    ap (λ o. items_at p (suc n) found o) parts
    ∙ then_ok (p (h.0 ++ (h.1 ++ back))) (λ x. items_at p n (push_item found x.0) x.1) (d, h.1 ++ back) _ (again h.0 d (h.1 ++ back) h.3)
    (items_deep_again p S D again deep n (push_item found d) h.1 back ds (omega arith) h.4 b)

dict_deep_again : (p : List ℕ → Found tree.Data) (S : List ℕ → tree.Data → Type 0) (D : List ℕ → Type 0) (again : (f : List ℕ) (d : tree.Data) (rest : List ℕ) → S f d → p (f ++ rest) ≡ Ok (d, rest))
    (deep : (octets : List ℕ) → D octets → p octets ≡ Err TooDeep) (n : ℕ) (found : tree.Entries) (texts : Bool) (front back : List ℕ) (ds : List tree.Data) → length ds < 2 * n → AreSpelled S front ds → D back
    → dict_at p n found texts (front ++ back) ≡ Err TooDeep
unfolding dict_at
dict_deep_again p S D again deep zero found texts front back ds lt h b = absurd (omega arith)
dict_deep_again p S D again deep (suc n) found texts front back [] lt h b = rw (h, deep back b) refl
dict_deep_again p S D again deep (suc n) found texts front back (k ∷ []) lt h b =
    let parts : front ++ back ≡ h.0 ++ back = ap (λ (x : List ℕ). x ++ back) (h.2 ∙ ap (λ (x : List ℕ). h.0 ++ x) h.4) ∙ simp append_assoc in
    ap (λ o. dict_at p (suc n) found texts o) parts
    ∙ then_ok (p (h.0 ++ back)) (λ k. p k.1 >>= λ v. dict_at p n (keep_entry k.0 v.0 found) (texts && is_text k.0) v.1) (k, back) _ (again h.0 k back h.3) (rw (deep back b) refl)
dict_deep_again p S D again deep (suc n) found texts front back (k ∷ v ∷ ds) lt h b =
    let g = h.4 in
    let parts : front ++ back ≡ h.0 ++ (g.0 ++ (g.1 ++ back)) = ap (λ (x : List ℕ). x ++ back) (h.2 ∙ ap (λ (x : List ℕ). h.0 ++ x) g.2) ∙ simp append_assoc in
    let last = dict_deep_again p S D again deep n (keep_entry k v found) (texts && is_text k) g.1 back ds (omega arith) g.4 b in
    let middle = then_ok (p (g.0 ++ (g.1 ++ back))) (λ v. dict_at p n (keep_entry k v.0 found) (texts && is_text k) v.1) (v, g.1 ++ back) _ (again g.0 v (g.1 ++ back) g.3) last in
    ap (λ o. dict_at p (suc n) found texts o) parts
    ∙ then_ok (p (h.0 ++ (g.0 ++ (g.1 ++ back)))) (λ k. p k.1 >>= λ v. dict_at p n (keep_entry k.0 v.0 found) (texts && is_text k.0) v.1) (k, g.0 ++ (g.1 ++ back)) _ (again h.0 k (g.0 ++ (g.1 ++ back)) h.3) middle

nest_deep_again : (p : List ℕ → Found tree.Data) (S : List ℕ → tree.Data → Type 0) (D : List ℕ → Type 0) (again : (f : List ℕ) (d : tree.Data) (rest : List ℕ) → S f d → p (f ++ rest) ≡ Ok (d, rest))
    (deep : (octets : List ℕ) → D octets → p octets ≡ Err TooDeep) (form : Form) (octets : List ℕ) → IsDeepInside S D form octets → nest_at p form octets ≡ Err TooDeep
unfolding nest_at
nest_deep_again p S D again deep forms.Null octets h = absurd h
nest_deep_again p S D again deep (forms.Flag b) octets h = absurd h
nest_deep_again p S D again deep (forms.Whole z) octets h = absurd h
nest_deep_again p S D again deep (forms.Unsigned w) octets h = absurd h
nest_deep_again p S D again deep (forms.Signed w) octets h = absurd h
nest_deep_again p S D again deep (forms.Text size) octets h = absurd h
nest_deep_again p S D again deep (forms.Bytes size) octets h = absurd h
nest_deep_again p S D again deep (forms.List size) octets h =
    let members = items_deep_again p S D again deep h.0 tree.no_items h.2 h.3 h.4 h.6 h.8 h.9 in
    let last = ap (λ r. r >>= λ x. read {A = tree.Data} (tree.list x.0) x.1) members in
    ap (λ o. size_at size o >>= λ n. items_at p n.0 tree.no_items n.1 >>= λ x. read {A = tree.Data} (tree.list x.0) x.1) h.7
    ∙ then_ok (size_at size (h.1 ++ (h.2 ++ h.3))) (λ n. items_at p n.0 tree.no_items n.1 >>= λ x. read {A = tree.Data} (tree.list x.0) x.1) (h.0, h.2 ++ h.3) _ (size_again size h.1 h.0 (h.2 ++ h.3) h.5) last
nest_deep_again p S D again deep (forms.Dict size) octets h =
    let members = dict_deep_again p S D again deep h.0 tree.no_entries true h.2 h.3 h.4 h.6 h.8 h.9 in
    ap (λ o. size_at size o >>= λ n. dict_at p n.0 tree.no_entries true n.1) h.7
    ∙ then_ok (size_at size (h.1 ++ (h.2 ++ h.3))) (λ n. dict_at p n.0 tree.no_entries true n.1) (h.0, h.2 ++ h.3) _ (size_again size h.1 h.0 (h.2 ++ h.3) h.5) members
nest_deep_again p S D again deep (forms.Foreign size) octets h = absurd h
nest_deep_again p S D again deep (forms.Float w) octets h = absurd h
nest_deep_again p S D again deep forms.Never octets h = absurd h

-- what is too deep is refused so
pub deep_again : (room : ℕ) (octets : List ℕ) → IsDeep room octets → value_at room octets ≡ Err TooDeep
unfolding value_at IsDeep
deep_again zero [] h = absurd h
deep_again zero (c ∷ octets) h = leaf_deep_again (form_of c) octets h
deep_again (suc room) [] h = absurd h
deep_again (suc room) (c ∷ octets) h = nest_deep_again (value_at room) (Spells room) (IsDeep room) (value_again room) (deep_again room) (form_of c) octets h
