-- Declarations are judged under the sets of their parameters.
use Rattle.std.proofs.Common.{◌≡◌, ◌∙◌, refl, sym, ap, map, List, [], ◌∷◌, ◌++◌, Option, Some, None, Result}
use Rattle.campl_tree.specs.Plain.SeqType.{SeqType}
use Rattle.campl_tree.specs.Plain.Decl.{DataConstructor, ProtocolConstructor, CoprotocolConstructor}
use Rattle.campl_tree.specs.declared.place.Ident.{Ident}
use Rattle.campl_tree.specs.declared.decl.ProtocolConstructor.{ProtocolConstructor as ProtocolLine}
use Rattle.campl_tree.specs.declared.decl.CoprotocolConstructor.{CoprotocolConstructor as CoprotocolLine}
use Rattle.campl_tree.specs.View.{seq_types, view_chan, view_protocol_constructor, view_coprotocol_constructor}
use Rattle.campl_types.specs.declared.fault.NameFault.{NameFault}
use Rattle.campl_types.specs.Names.{Name, once}
use Rattle.campl_names.specs.Judges.{Judges}
use Rattle.campl_types.specs.Known.{each, in_seq, in_chan, is_own}
use Rattle.campl_names.specs.Scope.{heading, with_names}
use Rattle.campl_types.specs.Substitution.{variables_of, variables_of_all}
use Rattle.campl_types.specs.World.{World, names_of, variables_of_list}
use Rattle.campl_names.proofs.Judged.{same-faults}
use Rattle.campl_names.proofs.Scopes.{with-append, seq-heading, chan-heading, seq-variables}

pub listed : (ts : List SeqType) → variables_of_all (seq_types ts) ≡ variables_of_list ts
listed [] = refl
listed (t ∷ ts) = ap (λ r. variables_of t ++ r) (listed ts)

pub ruleset type_set = (listed, with-append)

seq-set : (w : World) (set xs : List Name) (i : set ≡ with_names [] xs) (l : Option Name) → in_seq w (heading set l) ≡ in_seq w (heading xs l)
seq-set w set xs i l = ap (λ s. in_seq w (heading s l)) i ∙ seq-heading w xs l

chan-set : (w : World) (set xs : List Name) (i : set ≡ with_names [] xs) (l : Option Name) → in_chan w (heading set l) ≡ in_chan w (heading xs l)
chan-set w set xs i l = ap (λ s. in_chan w (heading s l)) i ∙ chan-heading w xs l

variables-set : (w : World) (set xs : List Name) (i : set ≡ with_names [] xs) (l : Option Name) → in_seq w (heading set l) ≡ in_seq w (heading (once xs) l)
variables-set w set xs i l = ap (λ s. in_seq w (heading s l)) i ∙ seq-variables w xs l

each-view : {A B : Type 0} (f : B → List NameFault) (g : A → B) (xs : List A) → each f (map g xs) ≡ each (λ x. f (g x)) xs
each-view f g [] = refl
each-view f g (x ∷ xs) = ap (λ r. f (g x) ++ r) (each-view f g xs)

-- the lines of a declaration with these parameters, of which a set was made
module _ (r : Result (Unit {0}) NameFault) (w : World) (ps qs : List Ident) (p : ps ≡ qs) (set : List Name) (i : set ≡ with_names [] (names_of ps)) (own : Name) where
  local : in_chan w (heading set (Some own)) ≡ in_chan w (heading (names_of qs) (Some own))
  local = chan-set w set (names_of qs) (i ∙ ap (λ xs. with_names [] (names_of xs)) p) (Some own)

  pub protocol-judged : (ls ks : List ProtocolLine) → ls ≡ ks
      → Judges (each (λ (k : ProtocolLine). in_chan w (heading set (Some own)) (view_chan k.channel_type) ++ is_own own k.local) ls) r
      → Judges (each (λ (n : ProtocolConstructor). in_chan w (heading (names_of qs) (Some own)) n.channel_type ++ is_own own n.local) (map view_protocol_constructor ks)) r
  protocol-judged ls ks q j =
      same-faults _ _ r j
      ((λ s. each (λ (k : ProtocolLine). local s (view_chan k.channel_type) ++ is_own own k.local) (q s))
      ∙ sym (each-view (λ (n : ProtocolConstructor). in_chan w (heading (names_of qs) (Some own)) n.channel_type ++ is_own own n.local) view_protocol_constructor ks))

  pub coprotocol-judged : (ls ks : List CoprotocolLine) → ls ≡ ks
      → Judges (each (λ (k : CoprotocolLine). is_own own k.local ++ in_chan w (heading set (Some own)) (view_chan k.channel_type)) ls) r
      → Judges (each (λ (n : CoprotocolConstructor). is_own own n.local ++ in_chan w (heading (names_of qs) (Some own)) n.channel_type) (map view_coprotocol_constructor ks)) r
  coprotocol-judged ls ks q j =
      same-faults _ _ r j
      ((λ s. each (λ (k : CoprotocolLine). is_own own k.local ++ local s (view_chan k.channel_type)) (q s))
      ∙ sym (each-view (λ (n : CoprotocolConstructor). is_own own n.local ++ in_chan w (heading (names_of qs) (Some own)) n.channel_type) view_coprotocol_constructor ks))

module _ (r : Result (Unit {0}) NameFault) (w : World) (set xs : List Name) (i : set ≡ with_names [] xs) where
  pub data-judged : (ks : List DataConstructor) → Judges (each (λ (n : DataConstructor). each (in_seq w (heading set None)) n.parts) ks) r
      → Judges (each (λ (n : DataConstructor). each (in_seq w (heading xs None)) n.parts) ks) r
  data-judged ks j = same-faults _ _ r j (ap (λ f. each (λ (n : DataConstructor). each f n.parts) ks) (seq-set w set xs i None))

  pub function-judged : (ts : List SeqType) (t : SeqType) (rest : List NameFault) → Judges (each (in_seq w (heading set None)) ts ++ in_seq w (heading set None) t ++ rest) r
      → Judges (each (in_seq w (heading (once xs) None)) ts ++ in_seq w (heading (once xs) None) t ++ rest) r
  function-judged ts t rest j = same-faults _ _ r j (ap (λ f. each f ts ++ f t ++ rest) (variables-set w set xs i None))
