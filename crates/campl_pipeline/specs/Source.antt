-- The source of a pipeline, line by line.
use Rattle.std.specs.Prelude.{ℕ, List, [], ◌∷◌, ◌++◌, codes, flat_map}
use Rattle.std.specs.Fmt.{decimal}

-- Ten numbers go through so many stages, each of which adds one, and their sum is printed.
abbrev pub lines : (stages : ℕ) → List (List ℕ)
lines stages =
    codes "protocol Stream => S where" ∷
    codes "    Item :: Put(Int | S) => S" ∷
    codes "    Done :: TopBot => S" ∷
    codes "fun show :: Int -> [Char] where" ∷
    codes "    n -> case n < 10 of" ∷
    codes "        True -> [char(48 + n)]" ∷
    codes "        False -> show(n div 10) ++ [char(48 + n mod 10)]" ∷
    codes "proc feed :: Int | => Stream where" ∷
    codes "    n | => o -> case n == 0 of" ∷
    codes "        True -> do" ∷
    codes "            hput Done on o" ∷
    codes "            halt o" ∷
    codes "        False -> do" ∷
    codes "            hput Item on o" ∷
    codes "            put n on o" ∷
    codes "            feed(n - 1 | => o)" ∷
    codes "proc step :: | Stream => Stream where" ∷
    codes "    | i => o -> hcase i of" ∷
    codes "        Item -> do" ∷
    codes "            get k on i" ∷
    codes "            hput Item on o" ∷
    codes "            put k + 1 on o" ∷
    codes "            step( | i => o)" ∷
    codes "        Done -> do" ∷
    codes "            close i" ∷
    codes "            hput Done on o" ∷
    codes "            halt o" ∷
    codes "proc chain :: Int | Stream => Stream where" ∷
    codes "    n | i => o -> case n == 0 of" ∷
    codes "        True -> i |=| o" ∷
    codes "        False -> plug m :: Stream of" ∷
    codes "            i => m -> step( | i => m)" ∷
    codes "            m => o -> chain(n - 1 | m => o)" ∷
    codes "proc sum :: Int | Stream, Console => where" ∷
    codes "    t | i, k => -> hcase i of" ∷
    codes "        Item -> do" ∷
    codes "            get v on i" ∷
    codes "            sum(t + v | i, k => )" ∷
    codes "        Done -> do" ∷
    codes "            close i" ∷
    codes "            hput ConsolePut on k" ∷
    codes "            put \"sum \" ++ show(t) on k" ∷
    codes "            hput ConsoleClose on k" ∷
    codes "            halt k" ∷
    codes "proc run :: | Console => where" ∷
    codes "    | console => -> plug a :: Stream, b :: Stream of" ∷
    codes "        => a -> feed(10 | => a)" ∷
    (codes "        a => b -> chain(" ++ (decimal stages ++ codes " | a => b)")) ∷
    codes "        b, console => -> sum(0 | b, console => )" ∷
    []

-- the text of these lines, each of which ends with LF
abbrev pub generated_source : (stages : ℕ) → List ℕ
generated_source stages = flat_map (λ line. line ++ 10 ∷ []) (lines stages)
