-- The code of bodies in the steps in which it is emitted. The word of the definition is closed here, so that a proof about code
-- sees each command's own equation; `proofs/Commands` has them.
use Rattle.std.specs.Prelude.{ℕ, ◌+◌, false, List, [], ◌++◌, length}
use Rattle.campl_tree.specs.declared.process.Binder.{Binder}
use Rattle.campl_tree.specs.Plain.Expr.{Expr, Exprs}
use Rattle.campl_tree.specs.Plain.Pattern.{Pattern}
use Rattle.campl_tree.specs.Plain.Process.{Body}
use Rattle.campl_types.specs.World.{World}
use Rattle.campl_code.specs.Decisions.{Decision}
use Rattle.campl_code.specs.Instructions.{Instr}
use Rattle.campl_code_bodies.specs.Bodies.{Channels, binds}
use Rattle.campl_code_bodies.specs.BodyCode.{Made, Maker, body_made}
use Rattle.campl_code_bodies.specs.BodySizes.{body_size}
use Rattle.campl_gen_exprs.specs.Emission.{Emission, appended, replaced, emitted, emitted_all, binding, left, shortened}
use Rattle.campl_gen_functions.specs.Deciding.{decided, decided_all}

-- what is made so far: the code, with the numbers that come next, and the decisions
pub record Making : Type 0 where
  pub emission : Emission
  pub decisions : List Decision

-- Steps

-- instructions behind the others
abbrev pub pushed : List Instr → Making → Making
pushed xs s = record s { emission = appended xs s.emission }

-- an instruction in the place of another
abbrev pub patched : ℕ → Instr → Making → Making
patched at x s = record s { emission = replaced at x s.emission }

-- the value of an expression, with its decisions
abbrev pub valued : World → Expr → Making → Making
valued w a s = record { emission = emitted w false a s.emission; decisions = s.decisions ++ decided w a }

-- the values of expressions
abbrev pub all_valued : World → Exprs → Making → Making
all_valued w args s = record { emission = emitted_all w args s.emission; decisions = s.decisions ++ decided_all w args }

-- a value that comes has the next variable's number, and its name, where it has one, is in scope
abbrev pub received : Binder → Making → Making
received v s = record s { emission = record s.emission { free = s.emission.free + 1; numbers = binds v s.emission.free s.emission.numbers } }

-- the variables of a pattern are in scope
abbrev pub entered : Pattern → Making → Making
entered p s = record s { emission = binding p s.emission }

-- the variables in scope are those of before
abbrev pub kept : Making → Making → Making
kept before s = record s { emission = left before.emission s.emission }

-- the newest variables go down to so many, and their numbers from this one on
abbrev pub left_at : (variables free : ℕ) → Making → Making
left_at variables free s = record s { emission = shortened variables free s.emission }

-- code and decisions alone
abbrev pub bare : Making → Making
bare s = record s { emission = record s.emission { free = 0; numbers = [] } }

-- Bodies

-- what is made of a body, whatever its size
abbrev pub whole : World → Maker
whole w body = body_made w (body_size body) body

abbrev pub added : Made → Making → Making
added m s = record {
  emission = record s.emission { code = s.emission.code ++ m.code; decisions = s.emission.decisions + length m.decisions };
  decisions = s.decisions ++ m.decisions;
}

-- a body behind what is made, where this number is the next channel's
unfoldable pub built : World → Body → (next : ℕ) → Channels → Making → Making
built w body next cs s = added (whole w body (length s.emission.code) s.emission.decisions s.emission.free s.emission.numbers next cs) s
