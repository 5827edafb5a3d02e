-- The transcript of a replay: what each line of the input gives, as it is printed.
use Rattle.std.specs.Prelude.{◌≡◌, ◌==◌, ◌+◌, ◌%◌, ◌^◌, ℕ, Bool, cond, List, [], ◌∷◌, ◌++◌, codes, decimal, None, Some}
use Rattle.std.specs.declared.option.Option.{Option}
use Rattle.std.specs.List.{list_any, flat_map}
use Rattle.message_tree.specs.Data.{Data}
use Rattle.json_codec.specs.Encoder.{json_text}
use Rattle.session.specs.ToClient.{message_of}
use Rattle.wamp_messages.specs.declared.item.Item.{Item}
use Rattle.wamp_messages.specs.declared.item.Item.TheVariants.{Abort}
use Rattle.wamp_messages.specs.declared.item.Reason.{Reason}
use Rattle.session.specs.declared.fault.Fault.{Fault}
use Rattle.session.specs.declared.fault.Fault.TheVariants.{NoSuchRealm, Shape}
use Rattle.session.specs.FirstMessage.{first_of, is_hello, reason_of}
use Rattle.realm.specs.declared.entry.Entry.{Entry}
use Rattle.realm.specs.declared.entry.Entry.TheVariants as entry
use Rattle.realm.specs.Grants.{Grants}
use Rattle.realm.specs.History.{History, begun, ◌▷◌}
use Rattle.realm.specs.Sessions.{live}
use Rattle.realm.specs.Words.{draws_word}
use Rattle.realm.specs.Given.{GivesExactly}
use Rattle.replay.specs.Lines.{Line, line_of}
use Rattle.replay.specs.Speech.{Hears}
use Rattle.replay.specs.declared.speech.Speech.{Speech}
use Rattle.replay.specs.declared.speech.Speech.TheVariants.{Gone, Said, Noise}

-- A replay of a realm: the realm's name, the numbers that were named so far, and the history.
pub record Replay : Type 0 where
  pub realm : List ℕ
  pub named : List ℕ
  pub history : History

-- before the first line, where these grants are given
abbrev pub starting : Grants → List ℕ → Replay
starting grants realm = record { realm = realm; named = []; history = begun grants }

abbrev pub is_named : Replay → ℕ → Bool
is_named r n = list_any (λ m. m == n) r.named

-- how many words were drawn
abbrev pub drawn : History → ℕ
drawn (begun grants) = 0
drawn (h ▷ e) = drawn h + cond (draws_word e) 1 0

-- the words are 0, 1, 2, .. in order of drawing; after 2^64 - 1 comes 0
abbrev pub next_word : History → ℕ
next_word h = drawn h % (2 ^ 64)

-- the entry that a live session's line is
abbrev pub later : History → ℕ → Speech → Entry
later h n Gone = entry.Gone n (next_word h)
later h n (Said said) = entry.Said n (next_word h) said
later h n Noise = entry.Spoilt n (next_word h)

-- the entry that the first line of a number is: a HELLO for the realm
abbrev pub opened_by : History → ℕ → Option (ℕ × Option (List ℕ)) → Option Entry
opened_by h n None = None
opened_by h n (Some asked) = Some (entry.Join n (next_word h) asked.1)

abbrev pub opening : Replay → ℕ → Speech → Option Entry
opening r n Gone = None
opening r n (Said said) = opened_by r.history n (first_of said (r.realm ∷ []))
opening r n Noise = None

-- the entry that a line is, if it is one
abbrev pub entry_of : Replay → ℕ → Speech → Option Entry
entry_of r n speech =
    cond (is_named r n) (cond (live r.history n) (Some (later r.history n speech)) None) (opening r n speech)

-- a line of output: a number, a space, a text
abbrev pub printed : ℕ → List ℕ → List ℕ
printed n line = decimal n ++ 32 ∷ line ++ 10 ∷ []

abbrev pub item_text : Option Data → List ℕ
item_text None = []
item_text (Some d) = json_text d

-- the lines of what was given
abbrev pub printed_all : List (ℕ × Item) → List ℕ
printed_all given = flat_map (λ g. printed g.0 (item_text (message_of g.1))) given

abbrev pub ended : ℕ → List ℕ
ended n = printed n (codes "end")

-- the line of the ABORT that a connection without a session gets
abbrev pub abort_line : ℕ → Option Reason → List ℕ
abort_line n None = []
abort_line n (Some reason) = printed n (item_text (message_of (Abort reason)))

-- a number that opens no session gets the ABORT of the fault, and has ended
abbrev pub refused : ℕ → Fault → List ℕ
refused n fault = abort_line n (reason_of fault) ++ ended n

-- what the first line of a number gives that opens no session: for `gone` no ABORT
abbrev pub refusal : ℕ → Speech → List ℕ
refusal n Gone = ended n
refusal n (Said said) = refused n (cond (is_hello said) NoSuchRealm Shape)
refusal n Noise = refused n Shape

-- a line that is no entry: a first line that opens no session, or a line of a number that has ended
abbrev pub no_entry : Replay → ℕ → Speech → List ℕ
no_entry r n speech = cond (is_named r n) [] (refusal n speech)

-- the number's line ends with it where its session isn't live any more
abbrev pub if_ended : Bool → ℕ → List ℕ
if_ended live n = cond live [] (ended n)

-- what is printed for an entry that comes after h, on the line of number n: what it gives each session, connections ascending, and `end`
pub record Prints (h : History) (e : Entry) (n : ℕ) (out : List ℕ) : Type 0 where
  pub given : List (ℕ × Item)
  pub exactly : GivesExactly h e given
  pub is : out ≡ printed_all given ++ if_ended (live (h ▷ e) n) n

abbrev pub PrintsFor : Replay → ℕ → Speech → Option Entry → List ℕ → Type 0
PrintsFor r n speech None out = out ≡ no_entry r n speech
PrintsFor r n speech (Some e) out = Prints r.history e n out

abbrev pub history_with : History → Option Entry → History
history_with h None = h
history_with h (Some e) = h ▷ e

-- the replay after a line
abbrev pub after : Replay → ℕ → Speech → Replay
after r n speech = record {
  realm = r.realm;
  named = cond (is_named r n) r.named (r.named ++ n ∷ []);
  history = history_with r.history (entry_of r n speech);
}

-- one line: what it says, and what is printed for it
pub record Tells (r : Replay) (octets : List ℕ) (next : Replay) (out : List ℕ) : Type 0 where
  pub line : Line
  pub is_line : line_of octets ≡ Some line
  pub speech : Speech
  pub hears : Hears line.text speech
  pub is_next : next ≡ after r line.number speech
  pub prints : PrintsFor r line.number speech (entry_of r line.number speech) out

-- line by line
pub data IsTranscript : Replay → List (List ℕ) → Replay → List ℕ → Type 0 where
  nothing : {r : Replay} → IsTranscript r [] r []
  more : {r s t : Replay} {lines : List (List ℕ)} {line : List ℕ} {out more_out : List ℕ}
      → IsTranscript r lines s out → Tells s line t more_out → IsTranscript r (lines ++ line ∷ []) t (out ++ more_out)

-- what a line adds to the output
pub record PrintsMore (r : Replay) (n : ℕ) (speech : Speech) (before after : List ℕ) : Type 0 where
  pub out : List ℕ
  pub is : after ≡ before ++ out
  pub prints : PrintsFor r n speech (entry_of r n speech) out

-- what an entry adds to the output
pub record PrintsEntry (h : History) (e : Entry) (n : ℕ) (before after : List ℕ) : Type 0 where
  pub out : List ℕ
  pub is : after ≡ before ++ out
  pub prints : Prints h e n out
