-- What a step tells its pass, and owes.
pub mod UnsetOwed
pub mod SetOwed
pub mod UnlinkOwed
pub mod PlainLoads
pub mod QuietLoads
pub mod CountTold
pub mod KeyTold
pub mod LockTold
pub mod WriteTold
pub mod ValueTold
pub mod StampTold
pub mod SetTold
pub mod UnlinkTold
pub mod PinTold
pub mod LinkReads
pub mod LinkTold
