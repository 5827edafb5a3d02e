-- Entries one behind another, in JSON.
use Rattle.std.proofs.Common.{◌≡◌, ◌++◌, ◌∙◌, ◌∷◌, ℕ, List, [], true, ap, append_assoc, refl, sym}
use Rattle.message_tree.specs.Data.{Entries, no_entries, entry, joined, text, dict}
use Rattle.json_codec.specs.Encoder.{entries_text, json_text}
use Rattle.json_codec.proofs.Lemmas.{dict_text}

pub joined_text : (es fs : Entries) → entries_text true (joined es fs) ≡ entries_text true es ++ entries_text true fs
joined_text no_entries fs = refl
joined_text (entry k d es) fs =
    ap (λ o. 44 ∷ ((json_text (text k) ++ 58 ∷ []) ++ (json_text d ++ o))) (joined_text es fs)
    ∙ ap (λ o. 44 ∷ ((json_text (text k) ++ 58 ∷ []) ++ o)) (sym (append_assoc (json_text d) (entries_text true es) (entries_text true fs)))
    ∙ ap (λ o. 44 ∷ o) (sym (append_assoc (json_text (text k) ++ 58 ∷ []) (json_text d ++ entries_text true es) (entries_text true fs)))

-- some are put, and then others
pub put_both : (a b c : List ℕ) (es fs : Entries) → b ≡ a ++ entries_text true es → c ≡ b ++ entries_text true fs → c ≡ a ++ entries_text true (joined es fs)
put_both a b c es fs first last =
    last ∙ ap (λ xs. xs ++ entries_text true fs) first ∙ append_assoc a (entries_text true es) (entries_text true fs) ∙ ap (λ xs. a ++ xs) (sym (joined_text es fs))

grouped : (a name value rest : List ℕ) → (((a ++ 123 ∷ name) ++ value) ++ rest) ++ 125 ∷ [] ≡ a ++ (123 ∷ ((name ++ (value ++ rest)) ++ 125 ∷ []))
grouped a name value rest =
    append_assoc ((a ++ 123 ∷ name) ++ value) rest (125 ∷ []) ∙ append_assoc (a ++ 123 ∷ name) value (rest ++ 125 ∷ []) ∙ append_assoc a (123 ∷ name) (value ++ (rest ++ 125 ∷ []))
    ∙ ap (λ x. a ++ 123 ∷ x) (sym (append_assoc name (value ++ rest) (125 ∷ []) ∙ ap (λ y. name ++ y) (append_assoc value rest (125 ∷ []))))

-- a dictionary, put as the beginning of its first entry, that entry's value and the others
pub put_dict : (a b c d e : List ℕ) (key first : List ℕ) (others : Entries) → b ≡ a ++ (123 ∷ (json_text (text key) ++ 58 ∷ [])) → c ≡ b ++ json_text (text first)
    → d ≡ c ++ entries_text true others → e ≡ d ++ 125 ∷ [] → e ≡ a ++ json_text (dict (entry key (text first) others))
put_dict a b c d e key first others b_is c_is d_is e_is =
    let name = json_text (text key) ++ 58 ∷ [] in let value = json_text (text first) in let rest = entries_text true others in
    e_is ∙ ap (λ x. x ++ 125 ∷ []) (d_is ∙ ap (λ x. x ++ rest) (c_is ∙ ap (λ x. x ++ value) b_is)) ∙ grouped a name value rest ∙ ap (λ x. a ++ x) (sym (dict_text (entry key (text first) others)))
