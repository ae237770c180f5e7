-- How the code goes about it: the entries of a SACL as it reads them, and the events one by one. Nothing here decides an answer.
use Rattle.std.specs.Prelude.{◌≡◌, ℕ, ◌-◌, List, [], ◌∷◌, true, cond, eqb, Option, None, Some}
use Rattle.base.specs.Bytes.{part}
use Rattle.passes.specs.Crowds.{shown_in}
use Rattle.audit.specs.Spot.{Spot}
use Rattle.audit.specs.Events as spec
use Rattle.audit.specs.Events.{audits_at, events_from}
use Rattle.audit.specs.declared.entry.AuditEntry.{AuditEntry}
use Rattle.audit.specs.declared.entry.Entry.{Entry}
use Rattle.audit.specs.declared.walk.Event.{Event}
use Rattle.audit.specs.declared.walk.Events.{Events}

-- an entry as the code answers it
abbrev pub made_of : Spot → AuditEntry
made_of x = record { flags = x.flags; mask = x.mask; sid = record { from = x.from; to = x.to } }

abbrev pub entry_of : Spot → Entry
entry_of x = record { audit = cond x.audits (Some (made_of x)) None; next = x.next }

abbrev pub read : Spot → Option Entry
read x = cond (eqb x.next 0) None (Some (entry_of x))

-- what an audit entry says
abbrev pub said_in : List ℕ → AuditEntry → spec.Audit
said_in l x = record { audits = true; flags = x.flags; mask = x.mask.0; sid = part l x.sid.from x.sid.to }

abbrev pub event_of : Event → spec.Event
event_of x = spec.event x.source x.entry x.mask.0

-- the events that are still to come
unfoldable pub events_left : Events → List spec.Event
events_left q =
    events_from q.asked.sought (shown_in q.asked.crowd) q.asked.crowd.hits q.source q.entry
    (audits_at q.list.now (q.count - q.entry) q.place)

-- the next event; or none is left
abbrev pub GivesEvent : Events → Option Event → Events → Type 0
GivesEvent old None new = events_left old ≡ []
GivesEvent old (Some x) new = events_left old ≡ event_of x ∷ events_left new
