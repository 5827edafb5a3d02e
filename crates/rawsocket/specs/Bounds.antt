-- How long a client's messages may be, as an operator picks it. A bound is the number that the reply to a handshake tells of it.
use Rattle.std.specs.Prelude.{◌≡◌, ◌≤◌, ◌^◌, ◌+◌, ℕ}

-- the most octets of a payload: a power of two, from 2 ^ 9 on
abbrev pub most_octets : ℕ → ℕ
most_octets bound = 2 ^ (9 + bound)

-- the bound of a router, if nobody chose a smaller one: 2 ^ 20 octets
abbrev pub largest_bound : ℕ
largest_bound = 11

-- one of the bounds allows so many octets, and no more
abbrev pub IsMostOctets : ℕ → Type 0
IsMostOctets octets = (bound : ℕ) × (bound ≤ largest_bound) × (most_octets bound ≡ octets)
