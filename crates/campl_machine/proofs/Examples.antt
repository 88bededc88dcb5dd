-- Worked examples that compute: a sender and a receiver, an identity between them, and the birth of a child.
use Rattle.std.proofs.Common.{◌≡◌, ℕ, ◌+◌, true, false, List, [], ◌∷◌, refl, ap, Option, Some, None}
use Rattle.campl_machine.specs.Names.{First, Second, End, Who, Process, same_end, same_who}
use Rattle.campl_machine.specs.Machine.{Config, Act, Moves, Looks, Links, Stands, Breaks, update, both_ways, performs}
use Rattle.campl_machine.specs.Independence.{Paired, Commute, only_sends}
use Rattle.campl_machine.proofs.Ends.{unlike}
use Rattle.campl_machine.proofs.Partners.{births}
use Rattle.campl_machine.proofs.Beside.{send-and-receipt}

-- children of a first process that is gone
abbrev pub process : ℕ → Who
process i = Process (record { step = 1; place = i } ∷ [])

abbrev pub sender : Who
sender = process 1

abbrev pub receiver : Who
receiver = process 2

abbrev pub middle : Who
middle = process 3

-- the two ends of the channel of this number
abbrev pub near : ℕ → End
near i = record { bearer = []; step = 1; channel = i; half = First }

abbrev pub far : ℕ → End
far i = record { bearer = []; step = 1; channel = i; half = Second }

-- a configuration of these nodes and channels, in which nothing is owed
abbrev pub at_rest : List (Who × Option ℕ) → List (End × End) → Config ℕ ℕ
at_rest nodes channels = record {
  nodes = update same_who nodes (λ w. None);
  partner = update same_end (both_ways channels) (λ e. None);
  owed = λ e. [];
}

-- one step after another
abbrev pub after : Option (Config ℕ ℕ) → List (Who × Act ℕ ℕ) → Option (Config ℕ ℕ)
after c [] = c
after None (step ∷ steps) = None
after (Some c) (step ∷ steps) = after (performs c step.0 step.1) steps

-- what is seen where steps were possible
abbrev pub state : Option (Config ℕ ℕ) → Who → Option ℕ
state None w = None
state (Some c) w = c.nodes w

abbrev pub partner : Option (Config ℕ ℕ) → End → Option End
partner None e = None
partner (Some c) e = c.partner e

abbrev pub owed : Option (Config ℕ ℕ) → End → List ℕ
owed None e = []
owed (Some c) e = c.owed e

-- a process that put a value goes on in state 1, and one that got m in state 100 + m
abbrev pub put : End → ℕ → Act ℕ ℕ
put e v = Moves (only_sends e v (Some 1))

abbrev pub get : End → Act ℕ ℕ
get e = Looks true e (λ m. Some (100 + m))

-- a race looks at a message and leaves it
abbrev pub look : End → Act ℕ ℕ
look e = Looks false e (λ m. Some (100 + m))

-- the sender has the near end of channel 1, and the receiver the far one
abbrev pub two : Config ℕ ℕ
two = at_rest ((sender, Some 0) ∷ (receiver, Some 0) ∷ []) ((near 1, far 1) ∷ [])

abbrev pub sent_twice : Option (Config ℕ ℕ)
sent_twice = after (Some two) ((sender, put (near 1) 7) ∷ (sender, put (near 1) 8) ∷ [])

-- messages are received the oldest first, and the others stay owed
oldest-first : state (after sent_twice ((receiver, get (far 1)) ∷ [])) receiver ≡ Some 107
oldest-first = refl

then-the-next : state (after sent_twice ((receiver, get (far 1)) ∷ (receiver, get (far 1)) ∷ [])) receiver ≡ Some 108
then-the-next = refl

rest-owed : owed (after sent_twice ((receiver, get (far 1)) ∷ [])) (near 1) ≡ 8 ∷ []
rest-owed = refl

-- who waits for what isn't owed makes no step
waits : after (Some two) ((receiver, get (far 1)) ∷ []) ≡ None
waits = refl

-- what a process owes it doesn't receive itself
not-its-own : after sent_twice ((sender, get (near 1)) ∷ []) ≡ None
not-its-own = refl

-- a look leaves what it looked at
looked-at : state (after sent_twice ((receiver, look (far 1)) ∷ [])) receiver ≡ Some 107
looked-at = refl

still-owed : owed (after sent_twice ((receiver, look (far 1)) ∷ [])) (near 1) ≡ 7 ∷ 8 ∷ []
still-owed = refl

-- a message that doesn't fit stays where it is
no-fit : after sent_twice ((receiver, Looks true (far 1) (λ m. None)) ∷ []) ≡ None
no-fit = refl

-- channel 1 leads from the sender to the middle, channel 2 from there to the receiver; each has sent on each of its ends
abbrev pub three : Option (Config ℕ ℕ)
three = after (Some (at_rest ((sender, Some 0) ∷ (middle, Some 0) ∷ (receiver, Some 0) ∷ []) ((near 1, far 1) ∷ (near 2, far 2) ∷ [])))
    ((sender, put (near 1) 1) ∷ (middle, put (far 1) 2) ∷ (middle, put (near 2) 3) ∷ (receiver, put (far 2) 4) ∷ [])

-- the middle is an identity of its two ends
abbrev pub joined_up : Option (Config ℕ ℕ)
joined_up = after three ((middle, Links (far 1) (near 2)) ∷ [])

identity-goes : state joined_up middle ≡ None
identity-goes = refl

new-partners : partner joined_up (near 1) ≡ Some (far 2)
new-partners = refl

new-partners-back : partner joined_up (far 2) ≡ Some (near 1)
new-partners-back = refl

-- what the identity's ends owed is owed by the new partners, before what those owe themselves
for-the-receiver : owed joined_up (near 1) ≡ 3 ∷ 1 ∷ []
for-the-receiver = refl

for-the-sender : owed joined_up (far 2) ≡ 2 ∷ 4 ∷ []
for-the-sender = refl

-- the identity's own ends are dead: they have no partner and owe nothing
dead-end : partner joined_up (far 1) ≡ None
dead-end = refl

dead-end-2 : partner joined_up (near 2) ≡ None
dead-end-2 = refl

dead-owes-nothing : owed joined_up (far 1) ≡ []
dead-owes-nothing = refl

dead-owes-nothing-2 : owed joined_up (near 2) ≡ []
dead-owes-nothing-2 = refl

-- the receiver gets what the identity had sent, and then what the sender had
through-the-identity : state (after joined_up ((receiver, get (far 2)) ∷ (receiver, get (far 2)) ∷ [])) receiver ≡ Some 101
through-the-identity = refl

-- an end has no identity with itself, and none with its partner
not-with-itself : after three ((middle, Links (far 1) (far 1)) ∷ []) ≡ None
not-with-itself = refl

not-with-its-partner : after (Some two) ((sender, Links (near 1) (far 1)) ∷ []) ≡ None
not-with-its-partner = refl

-- what stands or is broken makes no step
stands : after (Some two) ((sender, Stands) ∷ []) ≡ None
stands = refl

broken : after (Some two) ((sender, Breaks) ∷ []) ≡ None
broken = refl

-- the sender bears the middle with channel 2 between them, and is gone
abbrev pub born : Option (Config ℕ ℕ)
born = after (Some two) ((sender, Moves (record { send = None; channels = (near 2, far 2) ∷ []; children = (middle, 5) ∷ []; next = None })) ∷ [])

child-is-there : state born middle ≡ Some 5
child-is-there = refl

parent-is-gone : state born sender ≡ None
parent-is-gone = refl

born-both-ways : partner born (near 2) ≡ Some (far 2)
born-both-ways = refl

born-both-ways-back : partner born (far 2) ≡ Some (near 2)
born-both-ways-back = refl

-- the premises of the laws hold here: partners are mutual, and a send on channel 1 and a receipt there commute
pub two-paired : Paired two
two-paired = births ((near 1, far 1) ∷ []) (λ e. None) (record { back = λ e f i. absurd (cc i); other = λ e i. absurd (cc i) }) (unlike (near 1) (far 1) refl, (λ l. l), (λ l. l), tt) (λ e l. refl)

send-beside-receipt : Commute two sender (put (near 1) 9) receiver (get (far 1))
send-beside-receipt = send-and-receipt two sender receiver (far 1) (near 1) 9 (Some 1) true (λ m. Some (100 + m)) two-paired (λ i. let q : true ≡ false = ap (same_who sender) i in absurd (cc q)) refl
