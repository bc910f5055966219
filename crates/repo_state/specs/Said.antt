-- The state of a log that a repository keeps in memory.
use Rattle.log_codec.specs.declared.state.State.{State}
use Rattle.page_format.specs.declared.format.StoreFormat.TheVariants.{Two}
use Rattle.two_phase.specs.Lists.{kept_decisions, open_requests}
use Rattle.repo_state.specs.declared.held.Held.{Held}

-- the log's state
abbrev pub said : Held → State
said h =
    record {
      format = Two;
      repo = h.repo;
      repos = h.repos;
      life = h.life;
      count = h.count;
      threshold = h.threshold;
      next_page = h.next_page;
      classes = h.classes;
      roots = h.roots;
      upgrades = h.upgrades;
      installed = h.objects.pages.sides;
      mob = h.objects.mob.objects;
      prepared = open_requests h.table;
      kept = kept_decisions h.table;
      alone = h.table.alone.pairs;
    }

-- what a checkpoint spells: its next page is the one that is granted next
abbrev pub spelled : Held → State
spelled h = record (said h) { next_page = h.next_grant }
