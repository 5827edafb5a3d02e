-- A text stands for one tree at most.
use Rattle.std.proofs.Common.{◌≡◌, ◌≤◌, ℕ, List, Some, sym, ap, ◌∙◌, arith}
use Rattle.serde_json.specs.Data as json
use Rattle.message_tree.specs.Data.{Data, depth}
use Rattle.json_codec.specs.Decoder.{ReadsAs, Reads, IsTooDeep, IsUnreadable, tree_of}

one-value : (octets : List ℕ) (a b : json.Data) → ReadsAs octets a → ReadsAs octets b → a ≡ b
one-value octets a b x y = let same : Some a ≡ Some b = sym x.value ∙ y.value in cc

pub one-tree : (octets : List ℕ) (d e : Data) → Reads octets d → Reads octets e → d ≡ e
one-tree octets d e x y = x.2 ∙ (ap tree_of (one-value octets x.0 y.0 x.1 y.1) ∙ sym y.2)

-- what is too deep is no tree of fewer levels
pub deep-no-other : (octets : List ℕ) (d : Data) → Reads octets d → depth d ≤ 100 → IsTooDeep octets → ⊥
deep-no-other octets d x shallow y =
    let same : depth (tree_of y.0) ≡ depth d = ap (λ v. depth (tree_of v)) (one-value octets y.0 x.0 y.1 x.1) ∙ ap depth (sym x.2) in
    absurd (omega (arith, same, shallow, y.2))

pub readable : (octets : List ℕ) (d : json.Data) → ReadsAs octets d → IsUnreadable octets → ⊥
readable octets d x y = let none = sym x.value ∙ y x.utf8 in cc
