-- Blocks by their numbers.
use Rattle.std.proofs.Common.{◌≡◌, refl, ℕ, suc, ◌+◌, Bool, true, false, List, [], ◌∷◌, length, map, ap, sym, ◌∙◌, Option, Some, None, arith}
use Rattle.std.specs.Prelude.{option_map, eqb}
use Rattle.campl_code.specs.Heights.{Heights, heights_of}
use Rattle.campl_code.specs.Instructions.{Block, Instr, Code}
use Rattle.campl_code.specs.Rules.{block_fault, first_bad, first_fault, functions_fault, processes_fault, with_block}
use Rattle.campl_rules.specs.Faults.{first_block}

abbrev or-fault : Option (ℕ × ℕ) → Option (ℕ × ℕ) → Option (ℕ × ℕ)
or-fault None later = later
or-fault (Some f) later = Some f

processes-are : (code : Code) (n : ℕ) (blocks : List Block) → processes_fault code n blocks ≡ first_block code true n blocks
processes-are code n [] = refl
processes-are code n (b ∷ blocks) = ap (with_block n (block_fault code true b.code)) (processes-are code (suc n) blocks)

abbrev moved : ℕ → ℕ × ℕ → ℕ × ℕ
moved m f = (m + f.0, f.1)

moved-block : (m n : ℕ) (fault : Option ℕ) (later later-moved : Option (ℕ × ℕ)) → later-moved ≡ option_map (moved m) later → with_block (m + n) fault later-moved ≡ option_map (moved m) (with_block n fault later)
moved-block m n None later later-moved e = e
moved-block m n (Some at) later later-moved e = refl

moved-blocks : (code : Code) (p : Bool) (m n : ℕ) (blocks : List Block) → first_block code p (m + n) blocks ≡ option_map (moved m) (first_block code p n blocks)
moved-blocks code p m n [] = refl
moved-blocks code p m n (b ∷ blocks) =
    moved-block m n (block_fault code p b.code) (first_block code p (suc n) blocks) (first_block code p (suc (m + n)) blocks)
    ((let there : suc (m + n) ≡ m + suc n = omega arith in ap (λ k. first_block code p k blocks) there) ∙ moved-blocks code p m (suc n) blocks)

functions-are : (code : Code) (n : ℕ) (blocks : List Block) → functions_fault code n blocks ≡ or-fault (first_block code false n blocks) (processes_fault code (n + length blocks) code.processes)
functions-are code n [] = let here : n ≡ n + 0 = omega arith in ap (λ k. processes_fault code k code.processes) here
functions-are code n (b ∷ blocks) =
    ap (with_block n (block_fault code false b.code)) (functions-are code (suc n) blocks ∙ ap (λ k. or-fault (first_block code false (suc n) blocks) (processes_fault code k code.processes)) (let there : suc n + length blocks ≡ n + suc (length blocks) = omega arith in there))
    ∙ go (block_fault code false b.code) (first_block code false (suc n) blocks) (processes_fault code (n + suc (length blocks)) code.processes)
  where
    go : (fault : Option ℕ) (later last : Option (ℕ × ℕ)) → with_block n fault (or-fault later last) ≡ or-fault (with_block n fault later) last
    go None later last = refl
    go (Some at) later last = refl

first-is : (code : Code) → first_fault code ≡ or-fault (first_block code false 0 code.functions) (option_map (moved (length code.functions)) (first_block code true 0 code.processes))
first-is code =
    functions-are code 0 code.functions
    ∙ ap (or-fault (first_block code false 0 code.functions))
    (processes-are code (0 + length code.functions) code.processes
    ∙ ap (λ k. first_block code true k code.processes) (let there : 0 + length code.functions ≡ length code.functions + 0 = omega arith in there)
    ∙ moved-blocks code true (length code.functions) 0 code.processes)

-- in a function
pub fault-first : (code : Code) (fault : ℕ × ℕ) → Some fault ≡ first_block code false 0 code.functions → Some fault ≡ first_fault code
fault-first code fault e = ap (λ f. or-fault f (option_map (moved (length code.functions)) (first_block code true 0 code.processes))) e ∙ sym (first-is code)

-- or behind the functions
pub fault-behind : (code : Code) (n : ℕ) (fault : Option (ℕ × ℕ)) → None ≡ first_block code false 0 code.functions → fault ≡ first_block code true 0 code.processes → n ≡ length code.functions
    → option_map (λ p. (n + p.0, p.1)) fault ≡ first_fault code
fault-behind code n fault e f s =
    ap (λ k. option_map (moved k) fault) s ∙ ap (option_map (moved (length code.functions))) f
    ∙ ap (λ g. or-fault g (option_map (moved (length code.functions)) (first_block code true 0 code.processes))) e ∙ sym (first-is code)

-- a block with an instruction
pub block-fault-is : {A : Type 0} (view : A → Instr) (block : List A) (code : Code) (p : Bool) (heights : Heights) → eqb (length block) 0 ≡ false → heights ≡ heights_of code p (map view block)
    → first_bad code p (map view block) heights 0 (map view block) ≡ block_fault code p (map view block)
block-fault-is view [] code p heights e h = absurd cc
block-fault-is view (x ∷ block) code p heights e h = ap (λ l. first_bad code p (map view (x ∷ block)) l 0 (map view (x ∷ block))) h
