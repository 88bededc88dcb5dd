-- Worked sources that aren't typed.
use Rattle.std.proofs.Common.{◌≡◌, refl, List, [], ◌∷◌, Some, None, codes}
use Rattle.campl_tree.specs.declared.place.Ident.{Ident}
use Rattle.campl_tree.specs.declared.service.Side.TheVariants.{Input, Output}
use Rattle.campl_tree.specs.Plain.SeqType as s
use Rattle.campl_tree.specs.Plain.ChanType.{ChanType, Get, TopBot, Named}
use Rattle.campl_tree.specs.Plain.Pattern as p
use Rattle.campl_tree.specs.Plain.Expr as e
use Rattle.campl_tree.specs.Plain.Process as b
use Rattle.campl_tree.specs.Plain.Decl as d
use Rattle.campl_tree.specs.Plain.Decl.{Program}
use Rattle.campl_types.specs.Names.{Name}
use Rattle.campl_types.specs.SameType.{nowhere}
use Rattle.campl_types.specs.World.{World, world_of}
use Rattle.campl_types.specs.Forms.{Built, none}
use Rattle.campl_types.specs.Held.{On, Held, nothing_held, with, without}
use Rattle.campl_types.specs.Missing.{missing}
use Rattle.campl_types.specs.Sequential.{FunctionIsTyped, function_rows}
use Rattle.campl_types.specs.Linear.{IsWellFormed}
use Rattle.campl_types.specs.Typed.{IsTyped}
use Rattle.typing_examples.proofs.Sources.{place, ident, named, protocol, data_decl, constructor, silent_run}
use Rattle.typing_examples.proofs.Commands.{one-deed, after-hput, after-close, halts-alone}

-- a source that is a process `run`, whose channels are inputs or outputs
abbrev runs : (inputs outputs : List ChanType) → (names others : List Ident) → b.Body → d.ProcessDecl
runs inputs outputs names others body =
    record {
      place = place 1 1;
      name = ident 1 6 (codes "run");
      parameters = [];
      inputs = inputs;
      outputs = outputs;
      row = record { place = place 2 5; variables = []; inputs = names; outputs = others; body = body };
    }

abbrev console : ChanType
console = protocol 1 15 (codes "Console")

abbrev a : Ident
a = ident 2 7 (codes "a")

abbrev closing : b.Body → b.Body
closing = b.Then (b.Hput (place 3 9) (ident 3 14 (codes "ConsoleClose")) a)

-- proc run :: | Console, Console => where
--     | a, b => -> do
--         hput ConsoleClose on a
--         halt a
-- holds b still
abbrev leaves-one : d.ProcessDecl
leaves-one = runs (console ∷ console ∷ []) [] (a ∷ ident 2 10 (codes "b") ∷ []) [] (closing (b.Halt (place 4 9) (Some a)))

abbrev both-held : Held
both-held = with (codes "a") (Some (On Input console)) (with (codes "b") (Some (On Input console)) nothing_held)

left-over : IsTyped (d.Process leaves-one ∷ []) → ⊥
left-over h =
    let w : World = world_of (d.Process leaves-one ∷ []) in
    halts-alone w [] (with (codes "a") (Some (On Input TopBot)) both-held) (place 4 9) a (codes "b") refl refl
    (after-hput w [] both-held (place 3 9) (ident 3 14 (codes "ConsoleClose")) a (b.Halt (place 4 9) (Some a)) refl refl refl h.processes.0.5)

-- proc run :: | Console => where
--     | a => -> do
--         hput ConsoleClose on a
--         close a
--         halt a
-- has given a up
abbrev halts : b.Body
halts = b.Halt (place 5 9) (Some a)

abbrev closes-first : d.ProcessDecl
closes-first = runs (console ∷ []) [] (a ∷ []) [] (closing (b.Then (b.Close (place 4 9) a) halts))

abbrev one-held : Held
one-held = with (codes "a") (Some (On Input console)) nothing_held

abbrev closed : Held
closed = with (codes "a") (Some (On Input TopBot)) one-held

not-held-any-more : IsWellFormed (world_of (d.Process closes-first ∷ [])) [] (without (codes "a") closed) halts → ⊥
not-held-any-more (s, u, i, j, alone) = cc i

given-up : IsTyped (d.Process closes-first ∷ []) → ⊥
given-up h =
    let w : World = world_of (d.Process closes-first ∷ []) in
    not-held-any-more
    (after-close w [] closed (place 4 9) a halts
    (after-hput w [] one-held (place 3 9) (ident 3 14 (codes "ConsoleClose")) a (b.Then (b.Close (place 4 9) a) halts) refl refl refl h.processes.0.5))

-- proc run :: | => StringTerminal where
--     | => t -> do
--         hput StringTerminalGet on t
--         put "x" on t
--         halt t
-- puts where a line is due to be got
abbrev t : Ident
t = ident 2 10 (codes "t")

abbrev says : b.Body
says = b.Then (b.Put (place 4 9) (e.Text (place 4 13) (codes "x")) t) (b.Halt (place 5 9) (Some t))

abbrev puts-at-get : d.ProcessDecl
puts-at-get =
    runs [] (protocol 1 18 (codes "StringTerminal") ∷ []) [] (t ∷ []) (b.Then (b.Hput (place 3 9) (ident 3 14 (codes "StringTerminalGet")) t) says)

abbrev terminal-held : Held
terminal-held = with (codes "t") (Some (On Output (protocol 1 18 (codes "StringTerminal")))) nothing_held

abbrev line-due : Held
line-due =
    with (codes "t")
    (Some (On Output (Get (s.List s.Char) (Named nowhere (codes "StringTerminal") s.no_types))))
    terminal-held

no-put-is-due : IsWellFormed (world_of (d.Process puts-at-get ∷ [])) [] line-due says → ⊥
no-put-is-due (s, u, v, y, i, j, k, l) = cc (one-deed (world_of (d.Process puts-at-get ∷ [])) i j)

wrong-action : IsTyped (d.Process puts-at-get ∷ []) → ⊥
wrong-action h =
    no-put-is-due
    (after-hput (world_of (d.Process puts-at-get ∷ [])) [] terminal-held (place 3 9) (ident 3 14 (codes "StringTerminalGet")) t says refl refl refl h.processes.0.5)

-- Rows of processes

-- proc run :: | Console => where
--     | a, b => -> ..
two-channels : IsTyped (d.Process (runs (console ∷ []) [] (a ∷ ident 2 10 (codes "b") ∷ []) [] (b.Halt (place 3 9) None)) ∷ []) → ⊥
two-channels h = cc h.processes.0.2

-- proc run :: | Console, Console => where
--     | a, a => -> ..
one-name : IsTyped (d.Process (runs (console ∷ console ∷ []) [] (a ∷ a ∷ []) [] (b.Halt (place 3 9) None)) ∷ []) → ⊥
one-name h = cc h.processes.0.0

-- Functions

-- data Colour where
--     Red
--     Green
--     Blue
-- fun name :: Colour -> [Char] where
--     Red -> "red"
--     Blue -> "blue"
-- proc run :: | => where
--     | => -> halt
-- has no row for Green
abbrev colour : d.Decl
colour =
    data_decl 1 (ident 1 6 (codes "Colour")) []
    (constructor (ident 2 5 (codes "Red")) [] ∷ constructor (ident 3 5 (codes "Green")) [] ∷ constructor (ident 4 5 (codes "Blue")) [] ∷ [])

abbrev row : p.Pattern → e.Expr → d.FunctionRow
row pattern value = record { place = place 6 5; patterns = p.pattern_then pattern p.no_patterns; value = value }

abbrev naming : List d.FunctionRow → d.FunctionDecl
naming rows =
    record {
      place = place 5 1;
      name = ident 5 5 (codes "name");
      parameters = named 5 13 (codes "Colour") ∷ [];
      result = s.List s.Char;
      rows = rows;
    }

abbrev is-named : Name → p.Pattern
is-named x = p.Constructor (place 6 5) x p.no_patterns

abbrev red-and-blue : d.FunctionDecl
red-and-blue =
    naming
    (row (is-named (codes "Red")) (e.Text (place 6 12) (codes "red"))
    ∷ row (is-named (codes "Blue")) (e.Text (place 7 13) (codes "blue"))
    ∷ [])

abbrev colours : Program
colours = colour ∷ d.Function red-and-blue ∷ silent_run 8 ∷ []

green-is-missing : missing (world_of colours) (function_rows red-and-blue.rows) red-and-blue.parameters ≡ Some (Built (codes "Green") none ∷ [])
green-is-missing = refl

not-exhaustive : IsTyped colours → ⊥
not-exhaustive h = cc h.functions.1.0.1

-- with the rows
--     _ -> "any"
--     Red -> "red"
-- it is typed, though the second row is never chosen
abbrev any-and-red : d.FunctionDecl
any-and-red = naming (row (p.Wildcard (place 6 5)) (e.Text (place 6 10) (codes "any")) ∷ row (is-named (codes "Red")) (e.Text (place 7 12) (codes "red")) ∷ [])

any-colour : FunctionIsTyped (world_of (colour ∷ d.Function any-and-red ∷ silent_run 8 ∷ [])) any-and-red
any-colour = (((_, refl, refl, refl), ((_, refl, refl, refl), tt)), refl)
