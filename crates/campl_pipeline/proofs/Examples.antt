-- Worked examples.
use Rattle.std.proofs.Common.{◌≡◌, refl, codes, get_or, ◌++◌, [], ℕ}
use Rattle.std.specs.Fmt.{decimal}
use Rattle.campl_pipeline.specs.Source.{lines}

-- one line has the number of stages
with_a_number : (stages : ℕ) → get_or (lines stages) 47 [] ≡ codes "        a => b -> chain(" ++ (decimal stages ++ codes " | a => b)")
with_a_number stages = refl

without : (stages : ℕ) → get_or (lines stages) 46 [] ≡ codes "        => a -> feed(10 | => a)"
without stages = refl
