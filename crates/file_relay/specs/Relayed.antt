-- The rule of the channel: what was taken, followed by what the channel holds, is what was sent. One pass at most may send, and it has
-- the list of what was sent. The same for taking.
use Rattle.std.specs.Prelude.{◌≡◌, ℕ, Bool, true, List, ◌++◌}
use mathlib.Core.Option.{some}
use lib.ListN.{get_elem?}
use Rattle.file_relay.specs.declared.message.Message.{Message}
use Rattle.file_relay.specs.declared.link.Log.{Log}

abbrev pub log : Bool → Bool → List Message → List Message → Log
log sends takes sent got = record { sends = sends; takes = takes; sent = sent; got = got }

abbrev pub Fits : ℕ → ℕ → List Message → List Message → ℕ → Log → Type 0
Fits writer reader sent got port v
    = (v.sends ≡ true → (port ≡ writer) × (v.sent ≡ sent)) × (v.takes ≡ true → (port ≡ reader) × (v.got ≡ got))

abbrev pub Relayed : List Message → List Log → Type 0
Relayed items views = (writer : ℕ) × (reader : ℕ) × (sent : List Message) × (got : List Message) × (sent ≡ got ++ items)
    × ((port : ℕ) (v : Log) → get_elem? views port ≡ some v → Fits writer reader sent got port v)
