-- The derivation of its typing.
use Rattle.std.proofs.Common.{refl, [], ◌∷◌, codes}
use Rattle.campl_types.specs.SameType.{nowhere}
use Rattle.campl_types.specs.Prelude.{letters}
use Rattle.campl_types.specs.World.{World, world_of}
use Rattle.campl_types.specs.Sequential.{FunctionIsTyped}
use Rattle.campl_types.specs.Linear.{ProcessIsTyped}
use Rattle.campl_types.specs.Typed.{IsTyped}
use Rattle.typed_sources.proofs.Actions.{halt-alone}
use Rattle.typed_sources.proofs.Lasts.{process}
use Rattle.campl_tree.specs.Plain.SeqType as s
use Rattle.typed_sources.specs.UsesAllExpressions.{order_function, insert_function, zip_function, sign_function, join_function, agree_function, looks_function, found_function, texts_function, run_process, uses_all_expressions}

abbrev w : World
w = world_of uses_all_expressions

order_function-typed : FunctionIsTyped w order_function
order_function-typed = (
  (
    (_, refl, refl, ((s.Int, tt, refl, (_, refl, refl), (_, refl, refl)), (_, _, _, refl, ([], refl, refl, tt, tt)), ((s.Int, tt, refl, (_, refl, refl), (_, refl, refl)), (_, _, _, refl, ([], refl, refl, tt, tt)), (_, _, _, refl, ([], refl, refl, tt, tt))))),
    tt,
  ),
  refl,
)

insert_function-typed : FunctionIsTyped w insert_function
insert_function-typed = (
  (
    (_, refl, refl, (_, _, _, refl, ((s.Int ∷ s.Variable nowhere (codes "v") ∷ []), refl, refl, ((_, _, _, refl, ((s.Int ∷ s.Variable nowhere (codes "v") ∷ []), refl, refl, tt, tt)), ((s.Int, (s.Variable nowhere (codes "v")), refl, (_, refl, refl), (_, refl, refl)), ((_, _, _, refl, ((s.Int ∷ s.Variable nowhere (codes "v") ∷ []), refl, refl, tt, tt)), tt))), tt))),
    (
      (_, refl, refl, ((s.Named nowhere (codes "Order") s.no_types), (_, refl, ([], refl, refl, ((_, refl, refl), ((_, refl, refl), tt)), refl)), (_, refl, refl, (_, _, _, refl, ((s.Int ∷ s.Variable nowhere (codes "v") ∷ []), refl, refl, ((_, refl, ((s.Variable nowhere (codes "v") ∷ []), refl, refl, ((_, refl, refl), ((_, refl, refl), ((_, refl, refl), tt))), tt)), ((s.Int, (s.Variable nowhere (codes "v")), refl, (_, refl, refl), (_, refl, refl)), ((_, refl, refl), tt))), tt)), (_, refl, refl, (_, _, _, refl, ((s.Int ∷ s.Variable nowhere (codes "v") ∷ []), refl, refl, ((_, refl, refl), ((s.Int, (s.Variable nowhere (codes "v")), refl, (_, refl, refl), (_, refl, refl)), ((_, refl, refl), tt))), tt)), (_, refl, refl, (_, _, _, refl, ((s.Int ∷ s.Variable nowhere (codes "v") ∷ []), refl, refl, ((_, refl, refl), ((s.Int, (s.Variable nowhere (codes "v")), refl, (_, refl, refl), (_, refl, refl)), ((_, refl, ((s.Variable nowhere (codes "v") ∷ []), refl, refl, ((_, refl, refl), ((_, refl, refl), ((_, refl, refl), tt))), tt)), tt))), tt)), tt))), refl)),
      tt,
    ),
  ),
  refl,
)

zip_function-typed : FunctionIsTyped w zip_function
zip_function-typed = (
  (
    (_, refl, refl, ((s.Pair (s.Variable nowhere (codes "a")) (s.Variable nowhere (codes "b"))), refl)),
    (
      (_, refl, refl, ((s.Pair (s.Variable nowhere (codes "a")) (s.Variable nowhere (codes "b"))), refl)),
      (
        (_, refl, refl, ((s.Pair (s.Variable nowhere (codes "a")) (s.Variable nowhere (codes "b"))), refl, ((s.Variable nowhere (codes "a")), (s.Variable nowhere (codes "b")), refl, (_, refl, refl), (_, refl, refl)), (_, refl, ((s.Variable nowhere (codes "a") ∷ s.Variable nowhere (codes "b") ∷ []), refl, refl, ((_, refl, refl), ((_, refl, refl), tt)), tt)))),
        tt,
      ),
    ),
  ),
  refl,
)

sign_function-typed : FunctionIsTyped w sign_function
sign_function-typed = (
  (
    (_, refl, refl, refl),
    (
      (_, refl, refl, refl),
      (
        (_, refl, refl, ((refl, (s.Int, tt, refl, (_, refl, refl), refl), (refl, (s.Int, tt, refl, (_, refl, refl), (refl, (_, refl, refl))), (s.Int, tt, refl, (_, refl, refl), refl))), refl, (refl, (refl, (refl, refl), refl)))),
        tt,
      ),
    ),
  ),
  refl,
)

join_function-typed : FunctionIsTyped w join_function
join_function-typed = (
  (
    (_, refl, refl, refl),
    (
      (_, refl, refl, (_, refl, refl)),
      (
        (_, refl, refl, (_, refl, ([], refl, refl, ((_, refl, refl), tt), tt))),
        (
          (_, refl, refl, (s.Char, refl, (s.Char, refl, (_, refl, refl), tt), (s.Char, refl, (_, refl, refl), (s.Char, refl, refl, (_, refl, ([], refl, refl, ((_, refl, refl), tt), tt)))))),
          tt,
        ),
      ),
    ),
  ),
  refl,
)

agree_function-typed : FunctionIsTyped w agree_function
agree_function-typed = (
  (
    (_, refl, refl, refl),
    (
      (_, refl, refl, (refl, (s.Char, tt, refl, refl, refl), (refl, (s.Bool, tt, refl, (_, refl, refl), refl), (letters, tt, refl, refl, refl)))),
      (
        (_, refl, refl, refl),
        tt,
      ),
    ),
  ),
  refl,
)

looks_function-typed : FunctionIsTyped w looks_function
looks_function-typed = (
  (
    (_, refl, refl, ((s.Pair (s.List s.Int) (s.Pair (s.List s.Int) (s.Pair (s.List s.Int) s.Bool))), ((s.List s.Int), (s.Pair (s.List s.Int) (s.Pair (s.List s.Int) s.Bool)), refl, ((s.Int, tt, refl, (_, refl, refl), refl), (s.Int, refl, (_, refl, refl), tt), (s.Int, refl)), ((s.List s.Int), (s.Pair (s.List s.Int) s.Bool), refl, (s.Int, refl, (s.Int, refl, (_, refl, refl), tt), (s.Int, refl)), ((s.List s.Int), s.Bool, refl, (s.Int, refl, refl, (s.Int, refl)), (letters, tt, refl, refl, (s.Char, refl))))), (_, refl, refl, (_, refl, refl), (_, refl, refl, (_, refl, refl), (_, refl, refl, ((s.List s.Int), (_, refl, refl), (_, refl, refl, refl, (_, refl, refl, (_, refl, refl), tt)), refl), tt))), refl)),
    tt,
  ),
  refl,
)

found_function-typed : FunctionIsTyped w found_function
found_function-typed = (
  (
    (_, refl, refl, ((s.Named nowhere (codes "Many") (s.type_then s.Int s.no_types)), (_, _, _, refl, ((s.Int ∷ []), refl, refl, ((_, refl, refl), ((s.Int, refl), tt)), refl)), (_, refl, refl, (_, refl, refl), (_, refl, refl, ((s.Named nowhere (codes "Many") (s.type_then (s.Pair s.Int (s.List (s.Variable nowhere (codes "a")))) s.no_types)), ((s.List (s.Pair s.Int letters)), (_, refl, ((s.Int ∷ letters ∷ []), refl, refl, ((s.Int, refl, (_, refl, refl), tt), ((letters, refl, refl, (refl, tt)), tt)), refl)), (_, refl, refl, (_, _, _, refl, ((s.Pair s.Int (s.List (s.Variable nowhere (codes "a"))) ∷ []), refl, refl, ((s.Int, (s.List (s.Variable nowhere (codes "a"))), refl, (_, refl, refl), (_, refl, refl)), (((s.Pair s.Int (s.List (s.Variable nowhere (codes "a")))), refl), tt)), refl)), (_, refl, refl, (_, _, _, refl, ((s.Pair s.Int (s.List (s.Variable nowhere (codes "a"))) ∷ []), refl, refl, ((s.Int, (s.List (s.Variable nowhere (codes "a"))), refl, refl, ((s.Variable nowhere (codes "a")), refl)), (((s.Pair s.Int (s.List (s.Variable nowhere (codes "a")))), refl), tt)), tt)), tt)), refl), (_, refl, refl, ((s.Variable nowhere (codes "a")), refl, (_, refl, refl), (_, refl, refl)), tt), refl), tt)), refl)),
    tt,
  ),
  refl,
)

texts_function-typed : FunctionIsTyped w texts_function
texts_function-typed = (
  (
    (_, refl, refl, (_, refl, ((letters ∷ []), refl, refl, ((_, refl, ((letters ∷ []), refl, refl, ((_, refl, refl), (refl, (refl, tt))), tt)), (refl, ((s.Char, refl), tt))), tt))),
    tt,
  ),
  refl,
)

run_process-typed : ProcessIsTyped w run_process
run_process-typed =
    process w run_process refl refl refl refl refl
    (halt-alone refl)

pub typed : IsTyped uses_all_expressions
typed =
    record {
      declared = refl;
      functions = (tt, (tt, (tt, (order_function-typed, (insert_function-typed, (zip_function-typed, (sign_function-typed, (join_function-typed, (agree_function-typed, (looks_function-typed, (found_function-typed, (texts_function-typed, (tt, tt)))))))))))));
      processes = (tt, (tt, (tt, (tt, (tt, (tt, (tt, (tt, (tt, (tt, (tt, (tt, (run_process-typed, tt)))))))))))));
    }
