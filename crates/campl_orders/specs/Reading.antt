-- Which order words are, computed: they are read one after another.
use Rattle.std.specs.Prelude.{ℕ, Bool, not, ◌&&◌, ◌||◌, ◌==◌, nat_lt, List, [], ◌∷◌, length, slice_index, Option, Some, None, is_some, option_map, option_and_then, if◌then◌else◌, codes}
use Rattle.std.specs.Str.{bytes_eq}
use Rattle.std.specs.Borrow.{Bor}
use Rattle.std.specs.List.{position_or_len, before_first, after_first}
use Rattle.campl_orders.specs.Numbers.{number_in, number_or}
use Rattle.campl_orders.specs.Orders.{PlainOrder, run, check, code, generate, migrate, Given, at}
use Rattle.campl_orders.specs.declared.found.Slot.{Slot}
use Rattle.campl_orders.specs.declared.found.Slot.TheVariants.{Operand, Script, Steps, Workers}
use Rattle.campl_orders.specs.declared.found.Found.{Found}
use Rattle.campl_orders.specs.declared.reader.State.{State}
use Rattle.campl_orders.specs.declared.reader.State.TheVariants.{Open, Awaits, Closed}
use Rattle.campl_orders.specs.declared.reader.Reader.{Reader}
use Rattle.campl_orders.specs.declared.order.Order.{Order as Held}
use Rattle.campl_orders.specs.declared.order.Order.TheVariants as held

-- ---- what code holds, as definitions see it

abbrev pub texts : Option (Bor (List ℕ)) → Option (List ℕ)
texts = option_map (λ text. text.now)

abbrev pub given : Found → Given
given f = record { operand = texts f.operand; script = texts f.script; steps = texts f.steps; workers = texts f.workers }

abbrev pub stands : Reader → Given × State
stands r = (given r.found, r.state)

abbrev pub view : Held → PlainOrder
view (held.Run file script steps workers) = run file.now (texts script) steps workers
view (held.Check file) = check file.now
view (held.Code file) = code file.now
view (held.Generate stages workers) = generate stages workers
view (held.Migrate file) = migrate file.now

-- ---- one value

abbrev pub is_value : List ℕ → Bool
is_value word = not (length word == 0) && not (slice_index word 0 == 45)

abbrev pub option_named : List ℕ → Option Slot
option_named word = if bytes_eq word (codes "--script") then Some Script else (if bytes_eq word (codes "--steps") then Some Steps else (if bytes_eq word (codes "--workers") then Some Workers else None))

abbrev pub filled : Slot → List ℕ → Given → Given
filled Operand value g = record g { operand = Some value }
filled Script value g = record g { script = Some value }
filled Steps value g = record g { steps = Some value }
filled Workers value g = record g { workers = Some value }

-- with a value in its slot, where that is empty
abbrev pub put_new : Slot → List ℕ → Given → Option Given
put_new x value g = if is_some (at x g) then None else Some (filled x value g)

abbrev pub put : Slot → List ℕ → Given → Option Given
put x value g = if is_value value then put_new x value g else None

-- ---- one word

abbrev pub fills : Slot → List ℕ → State → Given → Option (Given × State)
fills x value state g = option_map (λ after. (after, state)) (put x value g)

abbrev pub is_equals : ℕ → Bool
is_equals c = c == 61

-- a word that is an option's name alone, or an operand
abbrev pub met_apart : Option Slot → List ℕ → Given → Option (Given × State)
met_apart (Some x) word g = Some (g, Awaits x)
met_apart None word g = fills Operand word Open g

-- a word with an equals sign: an option's name and its value, or an operand
abbrev pub met_joined : Option Slot → List ℕ → Given → Option (Given × State)
met_joined (Some x) word g = fills x (after_first is_equals word) Open g
met_joined None word g = fills Operand word Open g

abbrev pub met_word : List ℕ → Given → Option (Given × State)
met_word word g = if nat_lt (position_or_len is_equals word) (length word) then met_joined (option_named (before_first is_equals word)) word g else met_apart (option_named word) word g

abbrev pub met : List ℕ → Given → Option (Given × State)
met word g = if bytes_eq word (codes "--") then Some (g, Closed) else met_word word g

-- a word in each state
abbrev pub read : State → List ℕ → Given → Option (Given × State)
read Open word g = met word g
read (Awaits x) word g = fills x word Open g
read Closed word g = fills Operand word Closed g

-- ---- all words

abbrev pub finished : Given × State → Option Given
finished (g, Awaits x) = None
finished (g, Open) = Some g
finished (g, Closed) = Some g

abbrev pub nothing : Given
nothing = record { operand = None; script = None; steps = None; workers = None }

abbrev pub gathered : Given → State → List (List ℕ) → Option Given
gathered g state [] = finished (g, state)
gathered g state (word ∷ words) = option_and_then (λ p. gathered p.0 p.1 words) (read state word g)

-- ---- orders

abbrev pub only_operand : Given → Option (List ℕ)
only_operand g = if is_some g.script || (is_some g.steps || is_some g.workers) then None else g.operand

abbrev pub run_of : Given → Option PlainOrder
run_of g = option_and_then (λ file. option_and_then (λ n. option_map (λ w. run file g.script n w) (number_or 1 16 4 g.workers)) (number_or 0 1000000 100000 g.steps)) g.operand

abbrev pub generate_of : Given → Option PlainOrder
generate_of g = if is_some g.script || is_some g.steps then None else option_and_then (λ word. option_and_then (λ n. option_map (λ w. generate n w) (number_or 1 16 4 g.workers)) (number_in 1 10000 word)) g.operand

abbrev pub ordered : List ℕ → Given → Option PlainOrder
ordered first g =
    if bytes_eq first (codes "run") then run_of g
    else (if bytes_eq first (codes "check") then option_map check (only_operand g)
    else (if bytes_eq first (codes "code") then option_map code (only_operand g)
    else (if bytes_eq first (codes "generate") then generate_of g
    else (if bytes_eq first (codes "migrate") then option_map migrate (only_operand g)
    else None))))

abbrev pub order_of : List (List ℕ) → Option PlainOrder
order_of [] = None
order_of (first ∷ words) = option_and_then (ordered first) (gathered nothing Open words)
