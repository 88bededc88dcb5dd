-- What is made ready for a step.
use Rattle.std.specs.Prelude.{◌≡◌, ◌≢◌, ℕ, true, List, [], ◌∷◌, Option, Some, None, length, option_map, slice_get, if◌then◌else◌}
use Rattle.campl_value.specs.declared.message.Message.TheVariants.{Word}
use Rattle.campl_service.specs.Services.{Serving, Suits, action, next_line, want}
use Rattle.campl_code.specs.Instructions.{Code}
use Rattle.campl_cells.specs.Parts.{Mail, Tip, or_bare}
use Rattle.campl_cells.specs.Wants as w
use Rattle.campl_cells.specs.Wants.{Drawn, Next, Move, Want, hears, says}
use Rattle.campl_cells.specs.Steps.{by_want}
use Rattle.campl_parts.specs.Plans.{IsFit, IsPlanned}
use Rattle.campl_parts.specs.Views.{kind_of}
use Rattle.campl_steps.specs.declared.plan.Borne.{Borne}
use Rattle.campl_steps.specs.declared.plan.Borne.TheVariants as b
use Rattle.campl_steps.specs.declared.plan.Ready.{Ready}
use Rattle.campl_steps.specs.declared.plan.Ready.TheVariants as r

abbrev pub count_of : Borne → ℕ
count_of b.None = 0
count_of b.One = 1
count_of b.Two = 2

abbrev pub borne_channels : Drawn → Borne → List ℕ
borne_channels d b.None = []
borne_channels d b.One = d.channel ∷ []
borne_channels d b.Two = d.channel ∷ d.channel2 ∷ []

-- the message that can be taken at an end with this peer
abbrev pub first_at : (peer : Option ℕ) → List Mail → Option Mail
first_at None inbox = None
first_at (Some f) inbox = slice_get inbox 0

abbrev pub first_in : (ℕ → Option Tip) → ℕ → Option Mail
first_in tip e = first_at (or_bare (tip e)).peer (or_bare (tip e)).inbox

abbrev pub IsReadyFor : Code → (ℕ → Option Tip) → Want → Ready → Type 0
IsReadyFor code tip o r.Still = (d : Drawn) (p : ℕ) → by_want tip d p o ≡ None
IsReadyFor code tip o (r.Moves kind end borne told planned) =
    (v : Move) × (o ≡ w.Moves (kind_of kind) end v) × IsPlanned code v planned × (length v.channels ≡ count_of borne) × (told ≡ option_map (λ s. s.1) v.send)
IsReadyFor code tip o (r.Looks kind takes end told next) =
    (f : Mail → Option Next) × (mail : Mail) × (o ≡ w.Looks (kind_of kind) takes end f) × (first_in tip end ≡ Some mail)
    × IsFit code (f mail) (Some next) × (told ≡ (if takes then Some mail else None))
IsReadyFor code tip o (r.Links end second first_peer second_peer) =
    (o ≡ w.Links end second) × ((or_bare (tip end)).peer ≡ Some first_peer) × ((or_bare (tip second)).peer ≡ Some second_peer) × (end ≢ second) × (first_peer ≢ second)
IsReadyFor code tip o (r.Hears kind end told message) =
    (s : Serving) × (o ≡ w.Looks (kind_of kind) true end (hears end s)) × (first_in tip end ≡ Some message) × Suits (want s) (Some message) × (told ≡ message)
IsReadyFor code tip o (r.Says end told) =
    (s : Serving) × (o ≡ says end (action s None)) × Suits (want s) None × (Some told ≡ option_map Word (next_line s.script))
