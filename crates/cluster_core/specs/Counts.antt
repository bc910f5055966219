-- The repositories of an open store, and so its parts: how many there are. How many steps are left for its clients.
use Rattle.class_defs.specs.declared.store.Schemas.{Schemas}
use Rattle.cluster_core.specs.declared.emptied.Emptied.{Emptied}
use Rattle.cluster_core.specs.declared.cluster.Cluster.{Cluster}
use Rattle.front_end.specs.Moving.{steps_left}
use Rattle.front_end.specs.declared.front_end.FrontEnd.{FrontEnd}
use Rattle.cluster_port.specs.Sited.{Sited}
use Rattle.std.specs.List.{sum_by}
use Rattle.std.specs.Prelude.{List, vec_capacity, vec_len, ℕ}

abbrev pub parts_of : {P O : Type 0} → {g h : _} → Cluster P O g h → ℕ
parts_of cluster = vec_len cluster.sites

-- the repositories, in their order
abbrev pub sites_in : {P O : Type 0} → {g h : _} → Cluster P O g h → List Sited
sites_in cluster = cluster.sites.items

-- the clients 1, 2, ..
abbrev pub clients_of : {P O : Type 0} → {g h : _} → Cluster P O g h → List FrontEnd
clients_of cluster = cluster.clients.items

-- of an open store whose repositories were taken out: for how many parts it has room
abbrev pub room_of : {P : Type 0} → {g : _} → Emptied P g → ℕ
room_of emptied = vec_capacity emptied.spare

-- how many steps its clients take at most before each has ended
abbrev pub steps_of : {P O : Type 0} → {g h : _} → Cluster P O g h → ℕ
steps_of cluster = sum_by steps_left cluster.clients.items

-- the schemas on which its clients run
abbrev pub schemas_of : {P O : Type 0} → {g h : _} → Cluster P O g h → Schemas
schemas_of cluster = cluster.opened.schemas
