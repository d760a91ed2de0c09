pub mod ToPacket
pub mod Parts
