-- One member after the other.
use Rattle.std.proofs.Common.{◌≡◌, ℕ, zero, suc, Bool, true, false, true≢false, List, [], ◌∷◌, ◌++◌, length, Ok, refl, sym, ap, ◌∙◌, append_assoc, arith}
use Rattle.std.proofs.lemmas.Bool.{and_parts}
use Rattle.serde_json.specs.Written.{comma_if, items_text, members_text}
use Rattle.message_tree.specs.Data.{Data, null, flag, whole, text, bytes, list, dict, uncarried, is_carried, items_carried, entries_carried}
use Rattle.message_tree.specs.View.{items_of}
use Rattle.json_codec.specs.Encoder.{json_text, items_value, entries_value}
use Rattle.msgpack_codec.specs.body.Passing.{written_at}
use Rattle.msgpack_to_json.specs.body.Members.{ItemsAt, PairsAt, entries_of}

pub record FirstItem (room n : ℕ) (octets after : List ℕ) (all : List Data) : Type 0 where
  pub d : Data
  pub more : List Data
  pub middle : List ℕ
  pub is : all ≡ d ∷ more
  pub read : written_at room octets ≡ Ok (d, middle)
  pub carried : is_carried d ≡ true
  pub rest : ItemsAt room n middle after more

pub first-item : (room n count : ℕ) (octets after : List ℕ) (all : List Data) → suc n ≡ count → ItemsAt room count octets after all → FirstItem room n octets after all
first-item room n count octets after [] some at = let none : zero ≡ count = at.counted in absurd (omega arith)
first-item room n count octets after (d ∷ more) some at =
    let parts = and_parts (is_carried d) (items_carried (items_of more)) at.carried in
    let counted : suc (length more) ≡ count = at.counted in
    record {
      d = d;
      more = more;
      middle = at.each.0;
      is = refl;
      read = at.each.1;
      carried = parts.0;
      rest = record { each = at.each.2; counted = omega arith; carried = parts.1 };
    }

pub item-text : (so_far before new : List ℕ) (later : Bool) (d : Data) (more all : List Data) → all ≡ d ∷ more → so_far ++ items_text later (items_value (items_of all)) ≡ before
    → new ≡ (so_far ++ comma_if later) ++ json_text d → new ++ items_text true (items_value (items_of more)) ≡ before
item-text so_far before new later d more all is was wrote =
    ap (λ o. o ++ items_text true (items_value (items_of more))) wrote ∙ append_assoc (so_far ++ comma_if later) (json_text d) _ ∙ append_assoc so_far (comma_if later) _
    ∙ (ap (λ (ds : List Data). so_far ++ items_text later (items_value (items_of ds))) (sym is) ∙ was)

pub record FirstPair (room n : ℕ) (octets after : List ℕ) (all : List (Data × Data)) : Type 0 where
  pub key : List ℕ
  pub d : Data
  pub more : List (Data × Data)
  pub middle : List ℕ
  pub behind : List ℕ
  pub is : all ≡ (text key, d) ∷ more
  pub read_key : written_at room octets ≡ Ok (text key, middle)
  pub read : written_at room middle ≡ Ok (d, behind)
  pub carried : is_carried d ≡ true
  pub rest : PairsAt room n behind after more

no-text : {X : Type 0} → false ≡ true → X
no-text e = absurd (true≢false (sym e))

pub first-pair : (room n count : ℕ) (octets after : List ℕ) (all : List (Data × Data)) → suc n ≡ count → PairsAt room count octets after all → FirstPair room n octets after all
first-pair room n count octets after [] some at = let none : zero ≡ count = at.counted in absurd (omega arith)
first-pair room n count octets after ((text key, d) ∷ more) some at =
    let parts = and_parts (is_carried d) (entries_carried (entries_of more)) at.carried in
    let counted : suc (length more) ≡ count = at.counted in
    record {
      key = key;
      d = d;
      more = more;
      middle = at.each.0;
      behind = at.each.1;
      is = refl;
      read_key = at.each.2;
      read = at.each.3;
      carried = parts.0;
      rest = record { each = at.each.4; counted = omega arith; texts = at.texts; carried = parts.1 };
    }
first-pair room n count octets after ((null, d) ∷ more) some at = no-text at.texts
first-pair room n count octets after ((flag b, d) ∷ more) some at = no-text at.texts
first-pair room n count octets after ((whole z, d) ∷ more) some at = no-text at.texts
first-pair room n count octets after ((bytes b, d) ∷ more) some at = no-text at.texts
first-pair room n count octets after ((list ds, d) ∷ more) some at = no-text at.texts
first-pair room n count octets after ((dict es, d) ∷ more) some at = no-text at.texts
first-pair room n count octets after ((uncarried, d) ∷ more) some at = no-text at.texts

grouped : (so_far comma key value rest : List ℕ) → (((so_far ++ comma) ++ (key ++ 58 ∷ [])) ++ value) ++ rest ≡ so_far ++ (comma ++ (key ++ 58 ∷ (value ++ rest)))
grouped so_far comma key value rest = simp append_assoc

pub pair-text : (so_far before mid new : List ℕ) (later : Bool) (key : List ℕ) (d : Data) (more all : List (Data × Data)) → all ≡ (text key, d) ∷ more
    → so_far ++ members_text later (entries_value (entries_of all)) ≡ before → mid ≡ (so_far ++ comma_if later) ++ (json_text (text key) ++ 58 ∷ []) → new ≡ mid ++ json_text d
    → new ++ members_text true (entries_value (entries_of more)) ≡ before
pair-text so_far before mid new later key d more all is text_is wrote_key wrote =
    let rest = members_text true (entries_value (entries_of more)) in
    ap (λ (o : List ℕ). o ++ rest) (wrote ∙ ap (λ (o : List ℕ). o ++ json_text d) wrote_key)
    ∙ grouped so_far (comma_if later) (json_text (text key)) (json_text d) rest
    ∙ (ap (λ (ps : List (Data × Data)). so_far ++ members_text later (entries_value (entries_of ps))) (sym is) ∙ text_is)
