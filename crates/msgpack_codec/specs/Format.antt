-- What the first octet of a value says of it: the table of the MessagePack specification.
use Rattle.std.specs.Prelude.{◌-◌, ◌==◌, ℕ, pos, negsuc, true, false, nat_lt, if◌then◌else◌}
use Rattle.std.specs.Int.{w8, w16, w32, w64}
use Rattle.std.specs.Int as int
use Rattle.msgpack_codec.specs.declared.format.Form.{Form}
use Rattle.msgpack_codec.specs.declared.format.Form.TheVariants.{Null, Flag, Whole, Unsigned, Signed, Text, Bytes, List, Dict, Foreign, Float, Never}
use Rattle.msgpack_codec.specs.declared.format.Size.TheVariants.{Here, Next}
use Rattle.msgpack_codec.specs.declared.format.Width.{Width}
use Rattle.msgpack_codec.specs.declared.format.Width.TheVariants.{One, Two, Four, Eight}

-- C0 to DF
abbrev pub marked_form : ℕ → Form
marked_form c =
    if c == 192 then Null else if c == 194 then Flag false else if c == 195 then Flag true
    else if c == 196 then Bytes (Next One) else if c == 197 then Bytes (Next Two) else if c == 198 then Bytes (Next Four)
    else if c == 199 then Foreign (Next One) else if c == 200 then Foreign (Next Two) else if c == 201 then Foreign (Next Four)
    else if c == 202 then Float Four else if c == 203 then Float Eight
    else if c == 204 then Unsigned One else if c == 205 then Unsigned Two else if c == 206 then Unsigned Four else if c == 207 then Unsigned Eight
    else if c == 208 then Signed One else if c == 209 then Signed Two else if c == 210 then Signed Four else if c == 211 then Signed Eight
    else if c == 212 then Foreign (Here 1) else if c == 213 then Foreign (Here 2) else if c == 214 then Foreign (Here 4)
    else if c == 215 then Foreign (Here 8) else if c == 216 then Foreign (Here 16)
    else if c == 217 then Text (Next One) else if c == 218 then Text (Next Two) else if c == 219 then Text (Next Four)
    else if c == 220 then List (Next Two) else if c == 221 then List (Next Four)
    else if c == 222 then Dict (Next Two) else if c == 223 then Dict (Next Four)
    else Never

unfoldable pub form_of : ℕ → Form
form_of c =
    if nat_lt c 128 then Whole (pos c)
    else if nat_lt c 144 then Dict (Here (c - 128))
    else if nat_lt c 160 then List (Here (c - 144))
    else if nat_lt c 192 then Text (Here (c - 160))
    else if nat_lt c 224 then marked_form c
    else Whole (negsuc (255 - c))

-- the number of a width's octets, by std's words
abbrev pub bits_of : Width → int.Width
bits_of One = w8
bits_of Two = w16
bits_of Four = w32
bits_of Eight = w64
