-- Wildcards of many components, in pieces: so many components that aren't empty, and behind them so many that are.
use Rattle.std.specs.Prelude.{ℕ, Bool, true, not, ◌==◌, ◌&&◌, ◌+◌, ◌≡◌, ◌≤◌, ◌<◌, ⊤, List, [], ◌∷◌, ◌++◌, length, replicate, Option, Vec}
use Rattle.std.specs.declared.alloc.Global.{Global}
use Rattle.std.specs.List.{list_all}
use Rattle.std.specs.Map.{lookup}
use Rattle.std.specs.BTreeMap.{is_at}
use Rattle.std.specs.Ordering.{nat_cmp}
use Rattle.std.specs.Cmp.Lexicographic.{slice_cmp}
use Rattle.wamp_ids.specs.Uri.{components, is_empty}
use Rattle.subscription_index.specs.declared.pieces.Piece.{Piece}
use Rattle.subscription_index.specs.declared.pieces.Deep.{Deep}
use Rattle.subscription_index.specs.declared.pieces.Draft.{Draft}

-- components, each with a dot behind it
abbrev pub ended : List (List ℕ) → List ℕ
ended [] = []
ended (p ∷ ps) = p ++ 46 ∷ ended ps

-- what stands behind octets, so that a word can be read at each of them
abbrev pub padding : List ℕ
padding = 0 ∷ 0 ∷ 0 ∷ 0 ∷ 0 ∷ 0 ∷ 0 ∷ 0 ∷ []

-- octets, but no dot
abbrev pub is_word : List ℕ → Bool
is_word part = not (is_empty part) && list_all (λ c. not (c == 46)) part

-- components that aren't empty, and behind them so many that are
pub record Run : Type 0 where
  pub words : List (List ℕ)
  pub empties : ℕ

-- the components of the runs
abbrev pub spelled : List Run → List (List ℕ)
spelled [] = []
spelled (r ∷ rs) = r.words ++ (replicate r.empties [] ++ spelled rs)

-- the octets of those that aren't empty
abbrev pub octets_of : List Run → List ℕ
octets_of [] = []
octets_of (r ∷ rs) = ended r.words ++ octets_of rs

-- the piece tells how many components the run has, and how many octets, or that one component has them all
pub record Tells (piece : Piece) (run : Run) : Type 0 where
  pub words : list_all is_word run.words ≡ true
  pub step : piece.step ≡ length run.words + run.empties
  pub short : piece.octets ≤ 8 → length (ended run.words) ≡ piece.octets
  pub alone : 8 < piece.octets → length run.words ≡ 1

abbrev pub TellAll : List Piece → List Run → Type 0
TellAll [] [] = ⊤
TellAll [] (r ∷ rs) = ⊥
TellAll (p ∷ ps) [] = ⊥
TellAll (p ∷ ps) (r ∷ rs) = Tells p r × TellAll ps rs

-- the pieces spell these components, out of octets that stand one after another
pub record IsSpelled (pieces : List Piece) (octets : List ℕ) (parts : List (List ℕ)) : Type 0 where
  pub runs : List Run
  pub told : TellAll pieces runs
  pub spells : spelled runs ≡ parts
  pub octets_are : octets ≡ octets_of runs ++ padding

abbrev pub IsMade : Deep → List ℕ → Type 0
IsMade deep text = IsSpelled deep.pieces.items deep.named.items (components text) × (deep.dots + 1 ≡ length (components text))

-- the components so far
pub record IsDraft (draft : Draft) (parts : List (List ℕ)) : Type 0 where
  pub runs : List Run
  pub told : TellAll draft.pieces.items runs
  pub last : Run
  pub tells : Tells draft.last last
  pub spells : spelled runs ++ (last.words ++ replicate last.empties []) ≡ parts
  pub octets_are : draft.named.items ≡ octets_of runs ++ ended last.words
  pub unended : draft.is_open ≡ true → last.empties ≡ 0

-- each is that of its text
abbrev pub AreMade : List (Vec ℕ Global × Deep) → Type 0
AreMade [] = ⊤
AreMade (e ∷ es) = IsMade e.1 e.0.items × AreMade es

-- numbers by text
abbrev pub DeepNumbers : Type 0
DeepNumbers = List (Vec ℕ Global × ℕ)

abbrev pub numbers_of : List (Vec ℕ Global × Deep) → DeepNumbers
numbers_of [] = []
numbers_of (e ∷ es) = (e.0, e.1.number) ∷ numbers_of es

-- the number of the text
abbrev pub deep_number : DeepNumbers → List ℕ → Option ℕ
deep_number es text = lookup (is_at (λ (key : Vec ℕ Global). slice_cmp nat_cmp text key.items)) es

-- where each of the components begins from there on, if a dot stands behind each, and where the last one's dot ends
abbrev pub starts_of : ℕ → List (List ℕ) → List ℕ
starts_of at [] = at ∷ []
starts_of at (p ∷ ps) = at ∷ starts_of (at + (length p + 1)) ps
