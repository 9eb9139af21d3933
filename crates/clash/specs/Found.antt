-- What the walk of two proofs holds, as the messages that they come to.
use Rattle.dictionary.specs.Meeting.{Meets, two, lone}
use Rattle.clash.specs.declared.meet.Meet.{Meet}
use Rattle.clash.specs.declared.meet.Meet.TheVariants.{Two, Leaf, Inner}

abbrev pub meet_of : Meet → Meets
meet_of (Two first second) = two first second
meet_of (Leaf message) = lone message
meet_of (Inner message) = lone message
