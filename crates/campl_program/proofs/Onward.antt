-- The tests of jumps say what the definitions say.
use Rattle.std.proofs.Common.{◌≡◌, ◌∙◌, ap, sym, refl, ℕ, zero, suc, ◌+◌, Bool, true, false, List, [], ◌∷◌, ◌++◌, Some}
use Rattle.std.specs.Prelude.{◌&&◌, slice_get}
use Rattle.std.proofs.lemmas.Bool.{ltb-true, lt-ltb}
use Rattle.campl_code.specs.Instructions as i
use Rattle.campl_code.specs.Instructions.{Instr, Block, Code, blocks}
use Rattle.campl_code.specs.Forward.{AllAbove, Ahead, AllAhead, IsForward}
use Rattle.campl_program.specs.Onward.{all_above, jumps_onward, all_onward, blocks_onward}
use Rattle.campl_types.proofs.Truth.{and-first, and-second}

above : (p : ℕ) (ns : List ℕ) → all_above p ns ≡ true → AllAbove p ns
above p [] e = tt
above p (n ∷ ns) e = (ltb-true p n (and-first _ _ e), above p ns (and-second _ _ e))

ahead : (p : ℕ) (x : Instr) → jumps_onward p x ≡ true → Ahead p x
ahead p (i.Jump to) e = ltb-true p to e
ahead p (i.Unless to) e = ltb-true p to e
ahead p (i.Match m v rows) e = above p rows e
ahead p (i.Int x) e = tt
ahead p (i.Char c) e = tt
ahead p (i.Truth b) e = tt
ahead p i.Nil e = tt
ahead p (i.Text text) e = tt
ahead p (i.Load v) e = tt
ahead p i.Cons e = tt
ahead p i.Pair e = tt
ahead p (i.Build c n) e = tt
ahead p (i.Op op) e = tt
ahead p (i.Call g) e = tt
ahead p i.Return e = tt
ahead p (i.Case m v rows) e = tt
ahead p (i.Put c) e = tt
ahead p (i.Get c v) e = tt
ahead p (i.Pick c n) e = tt
ahead p (i.Split c a b) e = tt
ahead p (i.Close c) e = tt
ahead p (i.Offer c rows) e = tt
ahead p (i.Fork c a b to) e = tt
ahead p (i.Halt c) e = tt
ahead p (i.Link c d) e = tt
ahead p (i.LinkNeg c d) e = tt
ahead p (i.Peel c side to) e = tt
ahead p (i.Race rows) e = tt
ahead p (i.Go q channels) e = tt

all-ahead : (p : ℕ) (code : List Instr) → all_onward p code ≡ true → AllAhead p code
all-ahead p [] e = tt
all-ahead p (x ∷ code) e = (ahead p x (and-first _ _ e), all-ahead (p + 1) code (and-second _ _ e))

block-ahead : (bs : List Block) → blocks_onward bs ≡ true → (n : ℕ) (b : Block) → slice_get bs n ≡ Some b → AllAhead 0 b.code
block-ahead [] e n b h = absurd cc
block-ahead (c ∷ bs) e zero b h = let s : c ≡ b = cc in rw (sym s) (all-ahead 0 c.code (and-first _ _ e))
block-ahead (c ∷ bs) e (suc n) b h = block-ahead bs (and-second _ _ e) n b h

-- each jump leads onward
pub onward-forward : (code : Code) → blocks_onward (blocks code) ≡ true → IsForward code
onward-forward code e = block-ahead (blocks code) e

-- and the tests pass where it is so

above-test : (p : ℕ) (ns : List ℕ) → AllAbove p ns → all_above p ns ≡ true
above-test p [] h = refl
above-test p (n ∷ ns) h = rw (lt-ltb p n h.0) (above-test p ns h.1)

ahead-test : (p : ℕ) (x : Instr) → Ahead p x → jumps_onward p x ≡ true
ahead-test p (i.Jump to) h = lt-ltb p to h
ahead-test p (i.Unless to) h = lt-ltb p to h
ahead-test p (i.Match m v rows) h = above-test p rows h
ahead-test p (i.Int x) h = refl
ahead-test p (i.Char c) h = refl
ahead-test p (i.Truth b) h = refl
ahead-test p i.Nil h = refl
ahead-test p (i.Text text) h = refl
ahead-test p (i.Load v) h = refl
ahead-test p i.Cons h = refl
ahead-test p i.Pair h = refl
ahead-test p (i.Build c n) h = refl
ahead-test p (i.Op op) h = refl
ahead-test p (i.Call g) h = refl
ahead-test p i.Return h = refl
ahead-test p (i.Case m v rows) h = refl
ahead-test p (i.Put c) h = refl
ahead-test p (i.Get c v) h = refl
ahead-test p (i.Pick c n) h = refl
ahead-test p (i.Split c a b) h = refl
ahead-test p (i.Close c) h = refl
ahead-test p (i.Offer c rows) h = refl
ahead-test p (i.Fork c a b to) h = refl
ahead-test p (i.Halt c) h = refl
ahead-test p (i.Link c d) h = refl
ahead-test p (i.LinkNeg c d) h = refl
ahead-test p (i.Peel c side to) h = refl
ahead-test p (i.Race rows) h = refl
ahead-test p (i.Go q channels) h = refl

all-test : (p : ℕ) (code : List Instr) → AllAhead p code → all_onward p code ≡ true
all-test p [] h = refl
all-test p (x ∷ code) h = rw (ahead-test p x h.0) (all-test (p + 1) code h.1)

block-test : (bs : List Block) → ((n : ℕ) (b : Block) → slice_get bs n ≡ Some b → AllAhead 0 b.code) → blocks_onward bs ≡ true
block-test [] h = refl
block-test (b ∷ bs) h = rw (all-test 0 b.code (h zero b refl)) (block-test bs (λ n. h (suc n)))

-- the test passes where each jump leads onward
pub forward-onward : (code : Code) → IsForward code → blocks_onward (blocks code) ≡ true
forward-onward code h = block-test (blocks code) h

pub both-onward : (xs ys : List Block) → blocks_onward (xs ++ ys) ≡ (blocks_onward xs && blocks_onward ys)
both-onward [] ys = refl
both-onward (x ∷ xs) ys = ap (λ b. all_onward 0 x.code && b) (both-onward xs ys) ∙ assoc (all_onward 0 x.code) (blocks_onward xs) (blocks_onward ys)
  where
    assoc : (a b c : Bool) → (a && (b && c)) ≡ ((a && b) && c)
    assoc true b c = refl
    assoc false b c = refl
