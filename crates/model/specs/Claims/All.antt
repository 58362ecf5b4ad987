-- All claims about one map and primitives, in one record.
use Rattle.partitions.specs.Map.{Map}
use Rattle.model.specs.Lent.{Primitives}
use Rattle.model.specs.Claims.Classes.{Classes}
use Rattle.model.specs.Claims.Demand3.{Demand3}
use Rattle.model.specs.Claims.Refusals.{Refusals}
use Rattle.model.specs.Claims.Places.{Places}
use Rattle.model.specs.Claims.Order.{Order}
use Rattle.model.specs.Claims.Reads.{Reads}
use Rattle.model.specs.Claims.Burns.{Burns}
use Rattle.model.specs.Claims.OldRule.{OldRule}
use Rattle.model.specs.Claims.Transitions.{Transitions}
use Rattle.model.specs.Claims.LifeCycles.{LifeCycles}
use Rattle.model.specs.Claims.Tokens.{Tokens}
use Rattle.model.specs.Claims.Digests.{Digests}
use Rattle.model.specs.Claims.PowerUps.{PowerUps}
use Rattle.model.specs.Claims.FailedPowerUps.{FailedPowerUps}
use Rattle.model.specs.Claims.ReadLocks.{ReadLocks}
use Rattle.model.specs.Claims.Sensing.{Sensing}

pub record Claims (prims : Primitives) (map : Map) : Type 0 where
  pub classes : Classes
  pub demand3 : Demand3 prims map
  pub refusals : Refusals prims map
  pub places : Places map
  pub order : Order prims map
  pub reads : Reads prims map
  pub burns : Burns prims map
  pub old_rule : OldRule prims map
  pub transitions : Transitions prims map
  pub life_cycles : LifeCycles prims map
  pub tokens : Tokens prims map
  pub digests : Digests prims map
  pub power_ups : PowerUps prims map
  pub failed_power_ups : FailedPowerUps prims map
  pub read_locks : ReadLocks prims map
  pub sensing : Sensing prims map
