-- Which words of a command line are which order. A word is its bytes: 45 is a hyphen, and 61 an equals sign.
use Rattle.std.specs.Prelude.{◌≡◌, ◌≢◌, ℕ, Bool, true, false, if◌then◌else◌, List, [], ◌∷◌, ◌++◌, map, slice_index, All, Option, Some, None, codes}
use Rattle.campl_orders.specs.Numbers.{IsNumber, IsNumberOr}
use Rattle.campl_orders.specs.declared.found.Slot.{Slot}
use Rattle.campl_orders.specs.declared.found.Slot.TheVariants.{Operand, Script, Steps, Workers}

-- the orders, with their files and numbers
pub data PlainOrder : Type 0 where
  run : (file : List ℕ) → (script : Option (List ℕ)) → (steps workers : ℕ) → PlainOrder
  check : (file : List ℕ) → PlainOrder
  code : (file : List ℕ) → PlainOrder
  generate : (stages workers : ℕ) → PlainOrder
  migrate : (file : List ℕ) → PlainOrder

-- ---- what is given

-- how an option is written
abbrev pub option_word : Slot → List ℕ
option_word Script = codes "--script"
option_word Steps = codes "--steps"
option_word Workers = codes "--workers"
option_word Operand = []

-- a value isn't empty and doesn't begin with a hyphen
abbrev pub IsValue : List ℕ → Type 0
IsValue word = (word ≢ []) × (slice_index word 0 ≢ 45)

-- an operand, or an option with its value
abbrev pub Part : Type 0
Part = Slot × List ℕ

abbrev pub operand : List ℕ → Part
operand word = (Operand, word)

-- which words write which parts: an operand is a word, an option is `--x v` or `--x=v`, and behind `--` all are operands
pub data Writes : List (List ℕ) → List Part → Type 0 where
  nothing : Writes [] []
  an_operand : (word : List ℕ) → IsValue word → {words : List (List ℕ)} {parts : List Part} → Writes words parts → Writes (word ∷ words) ((Operand, word) ∷ parts)
  apart : (x : Slot) → x ≢ Operand → (value : List ℕ) → IsValue value → {words : List (List ℕ)} {parts : List Part} → Writes words parts → Writes (option_word x ∷ (value ∷ words)) ((x, value) ∷ parts)
  joined : (x : Slot) → x ≢ Operand → (value : List ℕ) → IsValue value → {words : List (List ℕ)} {parts : List Part} → Writes words parts → Writes ((option_word x ++ (61 ∷ value)) ∷ words) ((x, value) ∷ parts)
  operands_alone : (words : List (List ℕ)) → All IsValue words → Writes (codes "--" ∷ words) (map operand words)

-- the operand and the values of the options, where they are given
pub record Given : Type 0 where
  pub operand : Option (List ℕ)
  pub script : Option (List ℕ)
  pub steps : Option (List ℕ)
  pub workers : Option (List ℕ)

abbrev pub at : Slot → Given → Option (List ℕ)
at Operand g = g.operand
at Script g = g.script
at Steps g = g.steps
at Workers g = g.workers

-- the values for a slot, in their order
abbrev pub is_slot : Slot → Slot → Bool
is_slot Operand Operand = true
is_slot Script Script = true
is_slot Steps Steps = true
is_slot Workers Workers = true
is_slot _ _ = false

abbrev pub values_for : Slot → List Part → List (List ℕ)
values_for x [] = []
values_for x (p ∷ parts) = if is_slot x p.0 then p.1 ∷ values_for x parts else values_for x parts

-- one value or none
abbrev pub listed : Option (List ℕ) → List (List ℕ)
listed (Some value) = value ∷ []
listed None = []

-- the words give each of these once, in any order, and no more
abbrev pub Give : List (List ℕ) → Given → Type 0
Give words g = (parts : List Part) × Writes words parts × ((x : Slot) → values_for x parts ≡ listed (at x g))

-- the operand and no option
abbrev pub only : List ℕ → Given
only file = record { operand = Some file; script = None; steps = None; workers = None }

-- ---- orders

-- `run FILE [--script FILE] [--steps N] [--workers N]`, `check FILE`, `code FILE`, `generate N [--workers N]`, `migrate FILE`
pub data IsOrder : List (List ℕ) → PlainOrder → Type 0 where
  is_run : (words : List (List ℕ)) (file : List ℕ) (script steps workers : Option (List ℕ)) (n w : ℕ)
      → Give words (record { operand = Some file; script = script; steps = steps; workers = workers })
      → IsNumberOr 0 1000000 100000 steps n → IsNumberOr 1 16 4 workers w → IsOrder (codes "run" ∷ words) (run file script n w)
  is_check : (words : List (List ℕ)) (file : List ℕ) → Give words (only file) → IsOrder (codes "check" ∷ words) (check file)
  is_code : (words : List (List ℕ)) (file : List ℕ) → Give words (only file) → IsOrder (codes "code" ∷ words) (code file)
  is_generate : (words : List (List ℕ)) (stages : List ℕ) (workers : Option (List ℕ)) (n w : ℕ)
      → Give words (record { operand = Some stages; script = None; steps = None; workers = workers })
      → IsNumber 1 10000 stages n → IsNumberOr 1 16 4 workers w → IsOrder (codes "generate" ∷ words) (generate n w)
  is_migrate : (words : List (List ℕ)) (file : List ℕ) → Give words (only file) → IsOrder (codes "migrate" ∷ words) (migrate file)
