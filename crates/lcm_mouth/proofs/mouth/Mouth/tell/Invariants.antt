-- The moment that is noted is the site's.
use Rattle.lcm_mouth.proofs.mouth.Mouth.tell.Given as goal

abbrev pub ghost-with : goal.ghost-with
ghost-with g a = (g.S.Site.state a.object.now).moment
