-- What a token stands for, where it has nothing inside.
use Rattle.message_tree.specs.Data as tree
use Rattle.msgpack_codec.specs.declared.tokens.Token.{Token}
use Rattle.msgpack_codec.specs.declared.tokens.Token.TheVariants.{Null, Flag, Whole, Text, Bytes, List, Dict, Uncarried}

abbrev pub data_of : Token → tree.Data
data_of Null = tree.null
data_of (Flag b) = tree.flag b
data_of (Whole z) = tree.whole z
data_of (Text s) = tree.text s.now
data_of (Bytes s) = tree.bytes s.now
data_of (List n) = tree.uncarried
data_of (Dict n) = tree.uncarried
data_of Uncarried = tree.uncarried

-- it is no head
abbrev pub IsLeafToken : Token → Type 0
IsLeafToken Null = Unit {0}
IsLeafToken (Flag b) = Unit {0}
IsLeafToken (Whole z) = Unit {0}
IsLeafToken (Text s) = Unit {0}
IsLeafToken (Bytes s) = Unit {0}
IsLeafToken (List n) = ⊥
IsLeafToken (Dict n) = ⊥
IsLeafToken Uncarried = Unit {0}
