-- The laws of one node's decisions, each a statement; `proofs/` shows them.
use Rattle.std.specs.Prelude.{ℕ, ◌≤◌, ◌≡◌, true, false}
use Rattle.protocol.specs.Phase.{is_down}
use Rattle.protocol.specs.Sound.{sound_node}
use Rattle.protocol.specs.declared.Answer.TheVariants as answer
use Rattle.protocol.specs.declared.Node.{Node}
use Rattle.protocol.specs.declared.Refusal.{Refusal}
use Rattle.protocol.specs.declared.Sends.TheVariants as sends
use Rattle.protocol.specs.declared.Step.{Step}
use Rattle.laws_node.specs.Decision.{Decision, decide, after, Stands, MayCome}
use Rattle.laws_node.specs.Fields.{Leaves, changed}
use Rattle.laws_node.specs.OwnItem.{OwnItem}

-- a step at this node that is refused gives back the node, and sends nothing
abbrev pub GivesBack : Node → Step → Type 0
GivesBack node step =
    (why : Refusal) → step.answer ≡ answer.Refused why → (step.node ≡ node) × (step.sends ≡ sends.Nothing)

-- "A refusal changes no byte": so does every decision
unfoldable pub RefusedGivesBack : Type 0
RefusedGivesBack = (d : Decision) (node : Node) → GivesBack node (decide d node)

-- each decision leaves alone every field that the table `changed` does not give it
unfoldable pub OthersLeftAlone : Type 0
OthersLeftAlone = (d : Decision) (node : Node) → Leaves (changed d node.number) node (after d node)

-- no decision lowers the incarnation (and by `changed` only Start changes it)
unfoldable pub IncarnationsNeverFall : Type 0
IncarnationsNeverFall = (d : Decision) (node : Node) → node.incarnation.0 ≤ (after d node).incarnation.0

-- within one incarnation a sound node's attempt does not fall, unless the node goes Down (by Crash, or "stopped"): then it is
-- 0, until Start raises the incarnation
unfoldable pub AttemptsNeverFall : Type 0
AttemptsNeverFall =
    (n k : ℕ) (d : Decision) (node : Node) → sound_node n k node ≡ true →
    (after d node).incarnation ≡ node.incarnation → is_down (after d node).phase ≡ false →
    node.attempt.0 ≤ (after d node).attempt.0

-- the own item changes only by Write, to the next one, by the return, to one that a Table has for this node, and by Crash,
-- "stopped" and Start, to zero
unfoldable pub OwnItemOnlyWritten : Type 0
OwnItemOnlyWritten =
    (n k : ℕ) (d : Decision) (node : Node) → Stands n k node → MayCome n k d → OwnItem d node (decide d node)

-- a sound node stays sound, whatever it is given
unfoldable pub SoundStaysSound : Type 0
SoundStaysSound =
    (n k : ℕ) (d : Decision) (node : Node) → Stands n k node → MayCome n k d → sound_node n k (after d node) ≡ true
