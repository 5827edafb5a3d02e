-- The opening of a session: what the first message asks for, and what a refusal is told.
use Rattle.std.specs.Prelude.{ℕ, Bool, true, false, List, None, Some}
use Rattle.std.specs.declared.option.Option.{Option}
use Rattle.std.specs.Option.{option_map}
use Rattle.std.specs.List.{position}
use Rattle.std.specs.Str.{bytes_eq}
use Rattle.session.specs.declared.fault.Fault.{Fault}
use Rattle.session.specs.declared.fault.Fault.TheVariants.{TooDeep, Malformed, FrameTooLong, FrameType, Shape, NoSuchRealm}
use Rattle.wamp_messages.specs.declared.item.Reason.{Reason}
use Rattle.wamp_messages.specs.declared.item.Reason.TheVariants as reason
use Rattle.wamp_messages.specs.declared.said.Said.{Said}
use Rattle.wamp_messages.specs.declared.said.Said.TheVariants.{Hello}
use Rattle.session.specs.ToClient.{uri_of}

abbrev pub is_hello : Said → Bool
is_hello (Hello realm authid) = true
is_hello _ = false

-- of a HELLO, the place of the first realm whose text it names, and the authid that it asks for
abbrev pub first_of : Said → List (List ℕ) → Option (ℕ × Option (List ℕ))
first_of (Hello realm authid) realms = option_map (λ place. (place, authid)) (position (λ r. bytes_eq r realm) realms)
first_of _ realms = None

-- the reason of the ABORT that a refusal is told by, where it is told at all
abbrev pub reason_of : Fault → Option Reason
reason_of TooDeep = Some reason.ProtocolViolation
reason_of Malformed = Some reason.ProtocolViolation
reason_of FrameTooLong = Some reason.ProtocolViolation
reason_of FrameType = Some reason.ProtocolViolation
reason_of Shape = Some reason.ProtocolViolation
reason_of NoSuchRealm = Some reason.NoSuchRealm
reason_of _ = None

abbrev pub abort_uri_of : Fault → Option (List ℕ)
abort_uri_of fault = option_map uri_of (reason_of fault)
