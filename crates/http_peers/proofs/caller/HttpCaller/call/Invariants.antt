-- What is noted is what went out on the connection, under these limits.
use Rattle.std.specs.String.{string_bytes}
use Rattle.http_peers.proofs.caller.HttpCaller.call.Given as goal

abbrev pub ghost-with : goal.ghost-with
ghost-with g a = record {
  address = string_bytes a.object.now.0.address;
  bytes = g.N.Connection.Connection.outgoing a.object.now.0.connection;
  limits = a.object.now.1;
  allowed = g.N.Connection.Connection.allowed a.object.now.0.connection;
  vain = g.N.Connection.Connection.vain a.object.now.0.connection;
}
