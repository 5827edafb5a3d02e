-- Octets that are written in four pieces.
use Rattle.std.proofs.Common.{◌≡◌, ◌++◌, ℕ, List, ap, ◌∙◌, append_assoc}
use Rattle.rawsocket.specs.Devices.{GrowsByBeginning}
use Rattle.rawsocket.proofs.Lemmas.{grown_further, grown_second}

-- the third piece is being written
pub grown_third : (before one two now a b c more : List ℕ) → one ≡ before ++ a → two ≡ one ++ b → GrowsByBeginning two now c → GrowsByBeginning before now (a ++ (b ++ (c ++ more)))
grown_third before one two now a b c more e f g = grown_further before one now a (b ++ (c ++ more)) e (grown_second one two now b c more f g)

-- the last piece is being written
pub grown_last : (before one two three now a b c d : List ℕ) → one ≡ before ++ a → two ≡ one ++ b → three ≡ two ++ c → GrowsByBeginning three now d → GrowsByBeginning before now (a ++ (b ++ (c ++ d)))
grown_last before one two three now a b c d e f g h = grown_further before one now a (b ++ (c ++ d)) e (grown_further one two now b (c ++ d) f (grown_further two three now c d g h))

-- all pieces are written
pub written_all : (before one two three now a b c d : List ℕ) → one ≡ before ++ a → two ≡ one ++ b → three ≡ two ++ c → now ≡ three ++ d → now ≡ before ++ (a ++ (b ++ (c ++ d)))
written_all before one two three now a b c d e f g h =
    h ∙ ap (λ t. t ++ d) (g ∙ ap (λ t. t ++ c) (f ∙ ap (λ t. t ++ b) e))
    ∙ append_assoc ((before ++ a) ++ b) c d
    ∙ append_assoc (before ++ a) b (c ++ d)
    ∙ append_assoc before a (b ++ (c ++ d))
