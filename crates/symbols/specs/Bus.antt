-- What bus events mean: three digits of an identifier, a phase, four digits of a value. Assumes nothing.
use Rattle.std.specs.Prelude.{◌≡◌, ℕ, Bool, true, false, cond, ◌&&◌, List, ◌∷◌, ◌++◌, length, take, drop, Some, None, Option, ◌==◌, slice_index, refl}
use Rattle.symbols.specs.EventRange.{in_range}
use Rattle.std.specs.Option.{option_and_then}
use Rattle.symbols.specs.Hex.{hex_number, hex_digits}
use Rattle.symbols.specs.declared.bus_event.BusEvent.{BusEvent}
use Rattle.symbols.specs.declared.bus_event.Phase.{Phase}
use Rattle.symbols.specs.declared.bus_event.Phase.TheVariants.{Begin, End, Point}
use Rattle.symbols.specs.declared.role.Role.{Role}
use Rattle.symbols.specs.declared.role.Role.TheVariants.{Opening, Closing, Plain}

-- the character of a phase
abbrev pub phase_char : Phase → ℕ
phase_char Begin = 40
phase_char End = 41
phase_char Point = 46

-- the phase that a character means
abbrev pub phase_meant : ℕ → Option Phase
phase_meant c = cond (c == 40) (Some Begin) (cond (c == 41) (Some End) (cond (c == 46) (Some Point) None))

-- the event of these parts, if they are in range
abbrev pub event : (identifier : ℕ) (phase : Phase) (value : ℕ) (b : Bool) → in_range identifier value ≡ b → Option BusEvent
event i p v true e = Some (record { identifier = i; phase = p; value = v; ranged = e })
event i p v false e = None

-- the event of parts that may be absent
abbrev pub event_of : Option ℕ → Option Phase → Option ℕ → Option BusEvent
event_of identifier phase value = option_and_then (λ i. option_and_then (λ p. option_and_then (λ v. event i p v (in_range i v) refl) value) phase) identifier

-- what characters mean: eight of them the event whose parts they write
abbrev pub bus_meant : List ℕ → Option BusEvent
bus_meant s = cond (length s == 8) (event_of (hex_number (take 3 s)) (phase_meant (slice_index s 3)) (hex_number (drop 4 s))) None

-- the characters of an event
abbrev pub bus_chars : BusEvent → List ℕ
bus_chars x = hex_digits 3 x.identifier ++ phase_char x.phase ∷ hex_digits 4 x.value

-- whether two phases are equal
abbrev pub same_phase : Phase → Phase → Bool
same_phase p q = phase_char p == phase_char q

-- whether two events are equal
abbrev pub bus_equal : BusEvent → BusEvent → Bool
bus_equal x y = x.identifier == y.identifier && (same_phase x.phase y.phase && x.value == y.value)

-- a phase `(` opens, `)` closes, `.` is plain
abbrev pub phase_role : Phase → Role
phase_role Begin = Opening
phase_role End = Closing
phase_role Point = Plain

-- the role of an event is that of its phase
abbrev pub bus_role : BusEvent → Role
bus_role x = phase_role x.phase
