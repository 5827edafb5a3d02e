-- Tokens by what they begin.
use Rattle.std.specs.Prelude.{◌≡◌}
use Rattle.msgpack_codec.specs.body.Tokens.{IsLeafToken}
use Rattle.msgpack_codec.specs.declared.tokens.Token.{Token}
use Rattle.msgpack_codec.specs.declared.tokens.Token.TheVariants.{Null, Flag, Whole, Text, Bytes, List as ListOf, Dict as DictOf, Uncarried}
use Rattle.msgpack_canonical.specs.declared.kinds.TokenKind.{TokenKind}
use Rattle.msgpack_canonical.specs.declared.kinds.TokenKind.TheVariants as kinds

-- no key begins with it
abbrev pub IsNoText : Token → Type 0
IsNoText Null = Unit {0}
IsNoText (Flag b) = Unit {0}
IsNoText (Whole z) = Unit {0}
IsNoText (Text s) = ⊥
IsNoText (Bytes s) = Unit {0}
IsNoText (ListOf n) = Unit {0}
IsNoText (DictOf n) = Unit {0}
IsNoText Uncarried = Unit {0}

abbrev pub IsKind : TokenKind → Token → Type 0
IsKind (kinds.List n) t = t ≡ ListOf n
IsKind (kinds.Dict n) t = t ≡ DictOf n
IsKind kinds.Leaf t = IsLeafToken t
