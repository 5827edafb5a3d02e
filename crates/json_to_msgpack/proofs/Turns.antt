-- What a turn of the grammar's loops reads, as data.
use Rattle.std.proofs.Common.{◌≡◌, ℕ, zero, suc, ◌-◌, ◌<◌, ◌≤◌, List, length, Option, Some, None, option_map, refl, ap, ◌∙◌, arith}
use Rattle.json.specs.Token.{Token}
use Rattle.json.specs.Json as grammar
use Rattle.json.specs.Json.{Json, Parse, parse_map, after_end_array, read_key, items, members, if_last}
use Rattle.json.proofs.Grammar.{items_end, items_fail, items_more, members_end, members_fail, members_more}
use Rattle.serde_json.specs.Data.{Data, array, object, no_items, item, Members, no_members, put}
use Rattle.serde_json.specs.Read.{of_json, of_items, of_members, converted}

abbrev Left : Type 0
Left = List Token

-- what stands behind a conversion
pub record IsFrom {A B : Type 0} (f : A → Option B) (o : Option (A × List Token)) (b : B) (rest : List Token) : Type 0 where
  pub source : A
  pub parsed : o ≡ Some (source, rest)
  pub meant : f source ≡ Some b

abbrev value_in : {B : Type 0} → B → Option (B × Left) → B
value_in b None = b
value_in b (Some p) = p.0

abbrev rest_in : {B : Type 0} → Left → Option (B × Left) → Left
rest_in rest None = rest
rest_in rest (Some p) = p.1

both : {B : Type 0} (s rest : Left) (x : Option B) (b : B) → option_map {U = B × Left} (λ y. (y, s)) x ≡ Some (b, rest) → (x ≡ Some b) × (s ≡ rest)
both s rest None b e = absurd cc
both s rest (Some y) b e = (ap (λ o. Some (value_in b o)) e, ap (rest_in rest) e)

pub source_of : {A B : Type 0} (f : A → Option B) (o : Option (A × List Token)) (b : B) (rest : List Token) → converted f o ≡ Some (b, rest) → IsFrom f o b rest
source_of f None b rest e = absurd cc
source_of f (Some p) b rest e =
    let parts = both p.1 rest (f p.0) b e in
    record { source = p.0; parsed = ap (λ (s : List Token). Some (p.0, s)) parts.1; meant = parts.0 }

-- to build on what was read, before or after the rest is set beside it
beside : {A B : Type 0} (g : A → B) (rest : Left) (x : Option A) → option_map {U = B × Left} (λ b. (b, rest)) (option_map g x) ≡ parse_map g (option_map (λ a. (a, rest)) x)
beside g rest None = refl
beside g rest (Some a) = refl

pub as_array : (o : Option (grammar.Items × List Token)) → converted of_json (parse_map grammar.array o) ≡ parse_map array (converted of_items o)
as_array None = refl
as_array (Some p) = beside array p.1 (of_items p.0)

pub as_object : (o : Option (grammar.Members × List Token)) → converted of_json (parse_map grammar.object o) ≡ parse_map object (converted (λ ms. of_members ms no_members) o)
as_object None = refl
as_object (Some p) = beside object p.1 (of_members p.0 no_members)

with_item : (j : Json) (d : Data) (o : Option (grammar.Items × Left)) → of_json j ≡ Some d → converted of_items (parse_map (grammar.item j) o) ≡ parse_map (item d) (converted of_items o)
with_item j d None e = refl
with_item j d (Some p) e = rw e (beside (item d) p.1 (of_items p.0))

with_member : (k : List ℕ) (j : Json) (d : Data) (found : Members) (o : Option (grammar.Members × Left)) → of_json j ≡ Some d
    → converted (λ ms. of_members ms found) (parse_map (grammar.member k j) o) ≡ converted (λ ms. of_members ms (put k d found)) o
with_member k j d found None e = refl
with_member k j d found (Some p) e = rw e refl

pub item_turn : (p : Parse Json) (n : ℕ) (now next : List Token) (d : Data) → 0 < n → after_end_array now ≡ None → converted of_json (p now) ≡ Some (d, next)
    → converted of_items (items p n now) ≡ parse_map (item d) (converted of_items (items p (n - 1) next))
item_turn p n now next d some going e =
    let j = source_of of_json (p now) d next e in
    ap (converted of_items) (items_more p n now next j.source some going j.parsed) ∙ with_item j.source d _ j.meant

pub items_over : (p : Parse Json) (n : ℕ) (now rest : List Token) → length now ≤ n → after_end_array now ≡ Some rest → converted of_items (items p n now) ≡ Some (no_items, rest)
items_over p n now rest enough e = ap (converted of_items) (items_end p n now rest enough e)

pub member_turn : (p : Parse Json) (found : Members) (n : ℕ) (k : List ℕ) (now behind next : List Token) (d : Data) → 0 < n → read_key now ≡ Some (Some k, behind) → converted of_json (p behind) ≡ Some (d, next)
    → converted (λ ms. of_members ms found) (members p n now) ≡ converted (λ ms. of_members ms (put k d found)) (members p (n - 1) next)
member_turn p found n k now behind next d some key e =
    let j = source_of of_json (p behind) d next e in
    ap (converted (λ ms. of_members ms found)) (members_more p n k now behind next j.source some key j.parsed) ∙ with_member k j.source d found _ j.meant

pub members_over : (p : Parse Json) (found : Members) (n : ℕ) (now rest : List Token) → length now ≤ n → read_key now ≡ Some (None, rest)
    → converted (λ ms. of_members ms found) (members p n now) ≡ Some (found, rest)
members_over p found n now rest enough e = ap (converted (λ ms. of_members ms found)) (members_end p n now rest enough e)

-- ---- where there is no value

unmeant : (rest : Left) (x : Option Data) → option_map {U = Data × Left} (λ b. (b, rest)) x ≡ None → x ≡ None
unmeant rest None e = refl
unmeant rest (Some d) e = absurd cc

no_item : (j : Json) (o : Option (grammar.Items × Left)) → of_json j ≡ None → converted of_items (parse_map (grammar.item j) o) ≡ None
no_item j None e = refl
no_item j (Some p) e = rw e refl

no_member : (k : List ℕ) (j : Json) (found : Members) (o : Option (grammar.Members × Left)) → of_json j ≡ None → converted (λ ms. of_members ms found) (parse_map (grammar.member k j) o) ≡ None
no_member k j found None e = refl
no_member k j found (Some p) e = rw e refl

no_turns : (p : Parse Json) (now : Left) → items p 0 now ≡ None
unfolding items
no_turns p now = refl

no_member_turns : (p : Parse Json) (now : Left) → members p 0 now ≡ None
unfolding members
no_member_turns p now = refl

item_by : (p : Parse Json) (n : ℕ) (now : Left) (o : Option (Json × Left)) → p now ≡ o → after_end_array now ≡ None → converted of_json o ≡ None → converted of_items (items p n now) ≡ None
item_by p n now None is going e = ap (converted of_items) (items_fail p n now going is)
item_by p zero now (Some j) is going e = ap (converted of_items) (no_turns p now)
item_by p (suc n) now (Some j) is going e =
    ap (converted of_items) (items_more p (suc n) now j.1 j.0 (omega arith) going is) ∙ no_item j.0 _ (unmeant j.1 (of_json j.0) e)

pub item_none : (p : Parse Json) (n : ℕ) (now : List Token) → after_end_array now ≡ None → converted of_json (p now) ≡ None → converted of_items (items p n now) ≡ None
item_none p n now going e = item_by p n now (p now) refl going e

member_by : (p : Parse Json) (found : Members) (n : ℕ) (k : List ℕ) (now behind : Left) (o : Option (Json × Left)) → p behind ≡ o → read_key now ≡ Some (Some k, behind) → converted of_json o ≡ None
    → converted (λ ms. of_members ms found) (members p n now) ≡ None
member_by p found n k now behind None is key e = ap (converted (λ ms. of_members ms found)) (members_fail p n k now behind key is)
member_by p found zero k now behind (Some j) is key e = ap (converted (λ ms. of_members ms found)) (no_member_turns p now)
member_by p found (suc n) k now behind (Some j) is key e =
    ap (converted (λ ms. of_members ms found)) (members_more p (suc n) k now behind j.1 j.0 (omega arith) key is) ∙ no_member k j.0 found _ (unmeant j.1 (of_json j.0) e)

pub member_none : (p : Parse Json) (found : Members) (n : ℕ) (k : List ℕ) (now behind : List Token) → read_key now ≡ Some (Some k, behind) → converted of_json (p behind) ≡ None
    → converted (λ ms. of_members ms found) (members p n now) ≡ None
member_none p found n k now behind key e = member_by p found n k now behind (p behind) refl key e
