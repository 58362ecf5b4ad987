-- All claims, for every cipher and digest with their laws and every fit map: each part is cited from its own file.
use mathlib.Core.Path.{◌≡◌, refl}
use mathlib.Core.Bool.{true}
use mathlib.Core.List.{◌∷◌}
use Rattle.partitions.specs.Map.{Map}
use Rattle.partitions.specs.Map2.{map2}
use Rattle.partitions.specs.Fitness.{fit}
use Rattle.words.specs.Words.{number_of}
use Rattle.words.proofs.Words.{number-words}
use Rattle.model.specs.declared.Command.TheVariants.{PowerUp}
use Rattle.model.specs.Lent.{Primitives}
use Rattle.model.specs.Step.{after}
use Rattle.model.specs.Claims.Terms.{Cipher, DigestFits}
use Rattle.model.specs.Claims.Demand3.{Demand3}
use Rattle.model.specs.Claims.Refusals.{Refusals}
use Rattle.model.specs.Claims.Reads.{Reads}
use Rattle.model.specs.Claims.Burns.{Burns}
use Rattle.model.specs.Claims.Transitions.{Transitions, TokenPlaces}
use Rattle.model.specs.Claims.Digests.{Digests}
use Rattle.model.specs.Claims.PowerUps.{PowerUps}
use Rattle.model.specs.Claims.FailedPowerUps.{FailedPowerUps}
use Rattle.model.specs.Claims.ReadLocks.{ReadLocks}
use Rattle.model.specs.Claims.Sensing.{Sensing}
use Rattle.model.specs.Claims.All.{Claims}
use Rattle.model.proofs.Steps.{bits-stay, step-constants}
use Rattle.model.proofs.Refusals.{commands-refuse, power-ups-refuse, transitions-refuse}
use Rattle.model.proofs.LeftOut.{left-out}
use Rattle.model.proofs.Deaths.{deaths-named}
use Rattle.model.proofs.Locks.{locked-since}
use Rattle.model.proofs.Places.{places}
use Rattle.model.proofs.Order.{order}
use Rattle.model.proofs.ReadCodes.{read-exact, read-shows, front-exact}
use Rattle.model.proofs.NamedWords.{refused-named, locked-denied}
use Rattle.model.proofs.SecondBurns.{found-blank, no-second-burn, granule-final}
use Rattle.model.proofs.Writes.{write-taken, words_last, reads-back, reads-last}
use Rattle.model.proofs.WriteCodes.{write-exact, write_allowed, write-puts}
use Rattle.model.proofs.OldRule.{old-rule}
use Rattle.model.proofs.StoredWords.{write-stores, blank-lowest, cleared-lowest}
use Rattle.model.proofs.Chips.{two-chips}
use Rattle.model.proofs.Digests.{whole-digests}
use Rattle.model.proofs.LifeCycleProgress.{never-four, progress-run, counts}
use Rattle.model.proofs.TransitionCells.{step-told}
use Rattle.model.proofs.TransitionCodes.{fair-exact, tokens-compared, record-sevens, done-value}
use Rattle.model.proofs.Classes.{classes}
use Rattle.model.proofs.Comparisons.{step-compared, no-comparison}
use Rattle.model.proofs.TransitionLeaves.{leaves, reached-fair}
use Rattle.model.proofs.LifeCycleTables.{life-cycles}
use Rattle.model.proofs.Tokens.{tokens}
use Rattle.model.proofs.Since.{since-held, since-reached}
use Rattle.model.proofs.PowerUps.{alone, again, cleared, failed}
use Rattle.model.proofs.FrontReads.{fronts, device-final}
use Rattle.model.proofs.Quiet.{after-unsensed, step-recorded}
use Rattle.model.proofs.ReadLocks.{lock-exact, locks-last, lock-others, lock-says-nothing}
use Rattle.model.proofs.DigestCodes.{digest-codes}
use Rattle.model.proofs.DigestChecks.{digest-exact, digest-done, digest-only, digest-stored}
use Rattle.model.proofs.PowerUpCodes.{power-up-sixes, power-up-invalid, power-up-scrap, power-up-done, power-up-verdicts, no-verdict, power-up-sensed}
use Rattle.model.proofs.PowerUpCodes.{power-up-copy}
use Rattle.model.proofs.FailedDigests.{sixes, digest-passes}
use Rattle.model.proofs.FailedLifeCycles.{sevens}
use Rattle.model.proofs.Everything.{everything}

pub refusals : (prims : Primitives) (map : Map) → Refusals prims map
refusals prims map = record {
  commands = commands-refuse prims map;
  power_ups = power-ups-refuse prims map;
  transitions = transitions-refuse prims map;
  deaths = λ m x reason. deaths-named prims map m reason x;
  left_out = left-out prims map;
}

pub demand3 : (prims : Primitives) → Cipher prims → (map : Map) → fit map ≡ true → Demand3 prims map
demand3 prims C map F = record {
  bits = bits-stay prims map;
  locks = λ m r n D l₁ l₂ h. (locked-since prims map F n D m r l₁ l₂ h).1;
  writes = λ m r l₀ l₁ ready a value v al. (
    write-taken prims C map F m r l₀ l₁ ready a value v al,
    λ l₂ lasts unwritten. reads-back prims C map F m r l₀ l₁ ready a value v al l₂ unwritten lasts,
  );
  chips = two-chips prims map F;
  strokes = never-four prims map F;
}

pub burns : (prims : Primitives) → Cipher prims → (map : Map) → fit map ≡ true → Burns prims map
burns prims C map F = record {
  taken = found-blank prims map F;
  burns = no-second-burn prims map F;
  granules = granule-final prims map F;
  refused = refused-named prims map;
  locked = locked-denied prims map;
  exactly = λ m r ready a value. write-exact prims map m a value r ready;
  puts = λ m r a value. write-puts prims map F m r a value;
  stores = write-stores prims map F;
  blanks = blank-lowest map;
  cleared_bits = cleared-lowest map;
  allowed = write_allowed prims C map F;
  stays = words_last prims C map F;
  lasting = reads-last prims C map F;
}

pub transitions : (prims : Primitives) (map : Map) → fit map ≡ true → Transitions prims map
transitions prims map F = record {
  nothing = λ m target given. (transitions-refuse prims map m target given).0;
  used = λ m target given. (step-told prims map m target given F).used;
  spent = λ m target given. (step-told prims map m target given F).spent;
  moved = λ m target given. (step-told prims map m target given F).moved;
  stopped = λ m target given. (step-told prims map m target given F).stopped;
  exactly = fair-exact prims map;
  records = λ m r e target given. record-sevens prims map m target given r e;
  values = done-value prims map;
  comparisons = λ m target given. (let t = step-compared prims map m target given in (t.differs, t.free, t.same, t.refused, t.other));
  no_comparison = no-comparison prims map;
  tokens = tokens-compared prims map;
  fair = λ m r l e. (reached-fair prims map F (after prims map (PowerUp ∷ l) m) (since-reached prims map F m r l) e, never-four prims map F m r l);
  leaves = λ m r l. leaves prims map F (after prims map (PowerUp ∷ l) m) (since-reached prims map F m r l);
  progress = progress-run prims map F;
  counts = counts;
}

pub digests : (prims : Primitives) → DigestFits prims → (map : Map) → fit map ≡ true → Digests prims map
digests prims G map F = record {
  exactly = λ m r a. digest-exact prims map m a F r;
  codes = λ m r e a. digest-codes prims map F m a r e;
  done = λ m r a z. digest-done prims map m a F r (digest-only prims map m a z);
  stored = λ m r a z. digest-stored prims map m a F r (digest-only prims map m a z) G;
  checks = λ m r a z. digest-passes prims map F G m r a (digest-only prims map m a z);
  whole = λ m r n D l. whole-digests prims map F n D l m r;
}

pub reading : (prims : Primitives) (map : Map) → fit map ≡ true → Reads prims map
reading prims map F = record {
  numbers = λ word words. unfold number_of in refl;
  words = number-words;
  read = λ m r e a. read-exact prims map F m a r e;
  shows = λ m r a. read-shows prims map F m a r;
  front_read = λ m r e a. front-exact prims map F m a r e;
}

pub power-ups : (prims : Primitives) (map : Map) → fit map ≡ true → PowerUps prims map
power-ups prims map F = record {
  sixes = power-up-sixes prims map;
  invalid = power-up-invalid prims map;
  scrap = power-up-scrap prims map;
  done = power-up-done prims map;
  verdicts = power-up-verdicts prims map;
  no_verdict = no-verdict prims map F;
  sensed = power-up-sensed prims map F;
  copy = power-up-copy prims map F;
}

pub failed-power-ups : (prims : Primitives) → DigestFits prims → (map : Map) → fit map ≡ true → FailedPowerUps prims map
failed-power-ups prims G map F = record { sixes = sixes prims map F G; sevens = sevens prims map F }

pub read-locks : (prims : Primitives) (map : Map) → fit map ≡ true → ReadLocks prims map
read-locks prims map F = record {
  exactly = λ m r e n. lock-exact prims map m n r e;
  lasts = locks-last prims map F;
  others = λ m n l. lock-others prims map n m l;
  lockless = lock-says-nothing prims map;
}

pub sensing : (prims : Primitives) (map : Map) → fit map ≡ true → Sensing prims map
sensing prims map F = record {
  fresh = refl;
  since = λ m r l₀ l₁ u. (since-held prims map F m r l₀ l₁ u).holds;
  fronts = fronts prims map F;
  device = λ m r n D l₁ l₂ z. device-final prims map F m r n D l₁ z l₂;
  unsensed = after-unsensed prims map;
  recorded = λ m x q n. step-recorded prims map x q n m;
  constants = λ m x. step-constants prims map x m;
  cleared = cleared prims map;
  failed = failed prims map;
  alone = alone prims map;
  again = again prims map;
}

pub claims : (prims : Primitives) → Cipher prims → DigestFits prims → (map : Map) → fit map ≡ true → Claims prims map
claims prims C G map F = record {
  classes = classes;
  demand3 = demand3 prims C map F;
  refusals = refusals prims map;
  places = places map F;
  order = order prims map;
  reads = reading prims map F;
  burns = burns prims C map F;
  old_rule = old-rule prims C map F;
  transitions = transitions prims map F;
  life_cycles = life-cycles prims map;
  tokens = tokens prims C map F;
  digests = digests prims G map F;
  power_ups = power-ups prims map F;
  failed_power_ups = failed-power-ups prims G map F;
  read_locks = read-locks prims map F;
  sensing = sensing prims map F;
}

pub token-places : TokenPlaces
unfolding everything map2
token-places = record {
  map1_places = λ copy. (refl, refl, refl);
  map2_places = λ copy. (refl, refl, refl);
  map1_locks = (refl, refl, refl);
  map2_locks = (refl, refl, refl);
}
