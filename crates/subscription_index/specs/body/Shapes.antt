-- Wildcards of few components: a table for each shape.
use Rattle.std.specs.Prelude.{ℕ, Bool, true, cond, not, nat_lt, ◌==◌, ◌+◌, ◌*◌, ◌/◌, ◌%◌, ⊤, ◌≡◌, List, [], ◌∷◌, ◌++◌, length, Option, Some, None}
use Rattle.std.specs.List.{list_all}
use Rattle.std.specs.BTreeMap.{get}
use Rattle.std.specs.Ordering.{nat_cmp}
use Rattle.wamp_ids.specs.Uri.{components, is_empty}
use Rattle.subscription_index.specs.body.Tables.{Table, Endings, number_in}

-- a text of more than 8 components
abbrev pub is_deep : List ℕ → Bool
is_deep text = nat_lt 8 (length (components text))

-- which components aren't empty, as binary digits, the first the lowest; and a 1 above the last
abbrev pub digit_of : List ℕ → ℕ
digit_of part = cond (is_empty part) 0 1

abbrev pub mask_of : List (List ℕ) → ℕ
mask_of [] = 1
mask_of (p ∷ ps) = 2 * mask_of ps + digit_of p

-- about how many octets a text has
abbrev pub size_of : ℕ → ℕ
size_of length = cond (nat_lt length 256) 0 (cond (nat_lt length 4096) 1 (cond (nat_lt length 65536) 2 3))

unfoldable pub shape_of : List ℕ → ℕ
shape_of text = 4 * mask_of (components text) + size_of (length text)

-- one table for each shape
abbrev pub Shapes : Type 0
Shapes = Endings

-- the number of the text, in the table of its shape
abbrev pub number_by_shape : Shapes → List ℕ → Option ℕ
number_by_shape shapes text = number_in (get nat_cmp shapes (shape_of text)) text

-- no table, or one with entries
abbrev pub HasEntries : Option Table → Type 0
HasEntries None = ⊤
HasEntries (Some table) = table.entries ≡ [] → ⊥

-- the components, but for those that are empty in the mask
abbrev pub named : ℕ → List (List ℕ) → List (List ℕ)
named mask [] = []
named mask (p ∷ ps) = cond (mask % 2 == 1) p [] ∷ named (mask / 2) ps

-- components, each behind a dot
abbrev pub dotted : List (List ℕ) → List ℕ
dotted [] = []
dotted (p ∷ ps) = 46 ∷ (p ++ dotted ps)

abbrev pub AreDotless : List (List ℕ) → Type 0
AreDotless parts = list_all (list_all (λ c. not (c == 46))) parts ≡ true
